use Rattle.std.proofs.Common.{length}
use Rattle.schedule_drawing.proofs.ToldLives.{TellsBefore}
use Rattle.schedule_drawing.proofs.telling.told_schedule.Given as goal

abbrev pub invariant-loop-left : goal.invariant-loop-left
invariant-loop-left l = TellsBefore l.t l.answers l.left l.schedule

abbrev pub decreases-loop-left : goal.decreases-loop-left
decreases-loop-left l = length l.left
