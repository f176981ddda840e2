use Rattle.std.proofs.Common.{ℕ, ◌≤◌, ◌<◌}
use Rattle.drain_core.proofs.Common.{Sre, floor, max, rest_clock}
use Rattle.drain_core.proofs.steps.rested_clock.Given as goal

abbrev pub invariant-loop-rank : goal.invariant-loop-rank
invariant-loop-rank l = record {
  from : l.clock ≤ l.rested;
  most : l.rested ≤ max l.clock (rest_clock l.channel.checked.timing l.channel.commands);
  least : (rank : ℕ) → rank < l.rank → floor l.channel.checked.timing l.channel.commands (Sre rank) ≤ l.rested;
}
