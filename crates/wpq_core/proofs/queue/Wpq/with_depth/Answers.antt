use Rattle.std.proofs.Common.{rules}
use Rattle.wpq_core.proofs.queue.Wpq.with_depth.Goals as goal

pub invariant_of-result : goal.invariant_of-result
invariant_of-result c = search rules
