use Rattle.std.proofs.Common.{◌≤◌, ◌*◌}
use Rattle.drain_core.specs.Steps.{GoesTo}
use Rattle.drain_core.proofs.RefreshingChannel.{refreshing_of}
use Rattle.drain_core.proofs.steps.refresh.Given as goal

abbrev pub invariant-loop-rank : goal.invariant-loop-rank
invariant-loop-rank l = record {
  goes : GoesTo l.numbers (refreshing_of l.fn.channel l.clock l.rank) 0 l.fn.channel l.channel l.end;
  cost : l.end.cost ≤ l.rank * 1000000;
}
