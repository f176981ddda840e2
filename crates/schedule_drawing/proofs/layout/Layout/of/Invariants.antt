use Rattle.std.proofs.Common.{take}
use Rattle.schedule_drawing.specs.Drawing.{AreShown}
use Rattle.schedule_drawing.specs.Layouts.{AreNeeded}
use Rattle.schedule_drawing.proofs.layout.Layout.of.Given as goal

abbrev pub invariant-loop-shape : goal.invariant-loop-shape
invariant-loop-shape l = record {
  shown : AreShown l.lanes.items (take l.shape-index l.shapes);
  needed : AreNeeded l.lanes.items (take l.shape-index l.shapes);
}
