use Rattle.std.proofs.Common.{rules}
use Rattle.wpq_core.proofs.queue.Wpq.len.Goals as goal

pub returns : goal.returns
returns c = search rules
