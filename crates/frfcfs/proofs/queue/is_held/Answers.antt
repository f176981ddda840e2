use Rattle.std.proofs.Common.{rules}
use Rattle.frfcfs.proofs.queue.is_held.Goals as goal

pub returns-in-Some-Write : goal.returns-in-Some-Write
returns-in-Some-Write c = search rules
