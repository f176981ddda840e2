use Rattle.std.proofs.Common.{◌≡◌, ◌++◌, length}
use Rattle.schedule_drawing.specs.Axes.{edge_at, knots_from}
use Rattle.schedule_drawing.proofs.axis.knots_of.Given as goal

abbrev pub invariant-loop-left : goal.invariant-loop-left
invariant-loop-left l = l.knots.items ++ knots_from l.last l.left ≡ knots_from (edge_at l.first) l.clocks

abbrev pub decreases-loop-left : goal.decreases-loop-left
decreases-loop-left l = length l.left
