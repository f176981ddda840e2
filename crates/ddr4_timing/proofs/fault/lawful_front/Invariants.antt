use Rattle.std.proofs.Common.{take}
use Rattle.ddr4_timing.specs.TimingState.{StandsFor}
use Rattle.ddr4_timing.proofs.fault.lawful_front.Given as goal

abbrev pub invariant-loop-i : goal.invariant-loop-i
invariant-loop-i l = StandsFor l.rules.timing l.rules.geometry l.state (take l.i l.list)
