use Rattle.std.proofs.Common.{◌≤◌, ◌*◌}
use Rattle.drain_core.proofs.Common.{GoesTo, close_rank, drain_start_of, for_each_rank}
use Rattle.drain_core.proofs.steps.close_step.Given as goal

abbrev pub invariant-loop-rank : goal.invariant-loop-rank
invariant-loop-rank l = record {
  goes : GoesTo l.numbers (for_each_rank (close_rank l.fn.channel.checked.timing l.fn.channel.checked.geometry) l.rank (drain_start_of l.fn.channel)) 0 l.fn.channel l.channel l.end;
  cost : l.end.cost ≤ l.rank * 1000000;
}
