use Rattle.std.proofs.Common.{take}
use Rattle.schedule_drawing.specs.Changes.{AreInTurn}
use Rattle.schedule_drawing.proofs.vcd.changes_of.Given as goal

abbrev pub invariant-loop-shape : goal.invariant-loop-shape
invariant-loop-shape l = AreInTurn l.layout.lanes.items (take l.shape-index l.shapes) l.changes.items
