use Rattle.std.proofs.Common.{◌≡◌, ◌++◌, length}
use Rattle.std.specs.Prelude.{flat_map}
use Rattle.schedule_drawing.specs.Axes.{clocks_of_shape}
use Rattle.schedule_drawing.proofs.axis.add_clocks.Given as goal

abbrev pub invariant-loop-left : goal.invariant-loop-left
invariant-loop-left l = l.clocks.items ++ flat_map clocks_of_shape l.left ≡ l.fn.clocks.items ++ flat_map clocks_of_shape l.shapes

abbrev pub decreases-loop-left : goal.decreases-loop-left
decreases-loop-left l = length l.left
