use Rattle.std.proofs.Common.{◌≡◌, ◌++◌, length}
use Rattle.std.specs.Prelude.{filter_map}
use Rattle.schedule_drawing.specs.Range.{part_within}
use Rattle.schedule_drawing.proofs.range.parts_of.Given as goal

abbrev pub invariant-loop-left : goal.invariant-loop-left
invariant-loop-left l = l.parts.items ++ filter_map (part_within l.first l.last) l.left ≡ filter_map (part_within l.first l.last) l.shapes

abbrev pub decreases-loop-left : goal.decreases-loop-left
decreases-loop-left l = length l.left
