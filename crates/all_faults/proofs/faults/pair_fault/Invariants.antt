use Rattle.std.proofs.Common.{ℕ, ◌<◌}
use Rattle.ddr4_timing.specs.Lawful.{KeepsGap}
use Rattle.all_faults.proofs.faults.pair_fault.Given as goal

abbrev pub invariant-loop-i : goal.invariant-loop-i
invariant-loop-i l = (k : ℕ) → k < l.i → KeepsGap l.c.timing l.before l.x l.rule k
