use Rattle.std.proofs.Common.{◌≡◌, ◌++◌, length}
use Rattle.std.specs.Prelude.{filter_map}
use Rattle.schedule_drawing.specs.Events.{entry_told}
use Rattle.schedule_drawing.proofs.telling.entries_told.Given as goal

abbrev pub invariant-loop-left : goal.invariant-loop-left
invariant-loop-left l = l.entries.items ++ filter_map (entry_told l.begin) l.left ≡ filter_map (entry_told l.begin) l.answers

abbrev pub decreases-loop-left : goal.decreases-loop-left
decreases-loop-left l = length l.left
