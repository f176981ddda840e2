use Rattle.std.proofs.Common.{◌≡◌, ◌++◌, length}
use Rattle.schedule_drawing.specs.Drawing.{drawn}
use Rattle.schedule_drawing.proofs.shapes.shapes_of.Given as goal

abbrev pub invariant-loop-left : goal.invariant-loop-left
invariant-loop-left l = l.shapes.items ++ drawn l.t l.end l.left ≡ drawn l.t l.end l.entries

abbrev pub decreases-loop-left : goal.decreases-loop-left
decreases-loop-left l = length l.left
