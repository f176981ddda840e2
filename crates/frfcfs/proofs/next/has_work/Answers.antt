use Rattle.std.proofs.Common.{arith}
use Rattle.frfcfs.proofs.next.has_work.Goals as goal

pub returns-else-any : goal.returns-else-any
returns-else-any c list s = grind (arith, c.is_in_lead.ensures list s)
