use Rattle.std.proofs.Common.{rules}
use Rattle.frfcfs.proofs.queue.Queue.lies_in.Goals as goal

pub returns : goal.returns
returns c = search rules
