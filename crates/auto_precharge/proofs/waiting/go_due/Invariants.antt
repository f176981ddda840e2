use Rattle.std.proofs.Common.{List, ◌++◌, take}
use Rattle.ddr4_timing.specs.TimingState.{Keeps}
use Rattle.ddr4_timing.specs.declared.command.Stamped.{Stamped}
use Rattle.auto_precharge.specs.Unfolding.{ArePlaced, due}
use Rattle.auto_precharge.proofs.waiting.go_due.Given as goal

abbrev pub invariant-loop-i : goal.invariant-loop-i
invariant-loop-i l =
    (list : List Stamped) → Keeps l.rules.timing l.rules.geometry l.fn.state list → ArePlaced l.rules.geometry l.closings →
    Keeps l.rules.timing l.rules.geometry l.state (list ++ due l.clock (take l.i l.closings))
