use Rattle.std.proofs.Common.{rules}
use Rattle.frfcfs.proofs.queue.Queue.is_full.Goals as goal

pub returns : goal.returns
returns c = search rules
