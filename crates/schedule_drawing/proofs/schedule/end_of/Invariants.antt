use Rattle.std.proofs.Common.{◌≤◌, take}
use Rattle.schedule_drawing.specs.Lives.{EndBy}
use Rattle.schedule_drawing.proofs.schedule.end_of.Given as goal

abbrev pub invariant-loop-shape : goal.invariant-loop-shape
invariant-loop-shape l = EndBy l.last (take l.shape-index l.shapes) × (l.end ≤ l.last)
