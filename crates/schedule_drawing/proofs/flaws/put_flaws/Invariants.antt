use Rattle.std.proofs.Common.{◌≡◌, ◌++◌, length}
use Rattle.std.specs.Prelude.{filter_map}
use Rattle.schedule_drawing.specs.Flaws.{flaw_told}
use Rattle.schedule_drawing.proofs.flaws.put_flaws.Given as goal

abbrev pub invariant-loop-left : goal.invariant-loop-left
invariant-loop-left l = l.flaws.items ++ filter_map (flaw_told l.own) l.left ≡ l.fn.flaws.items ++ filter_map (flaw_told l.own) l.faults

abbrev pub decreases-loop-left : goal.decreases-loop-left
decreases-loop-left l = length l.left
