use Rattle.std.proofs.Common.{arith}
use Rattle.std.proofs.lemmas.Grind.{common_steps}
use Rattle.frfcfs.proofs.queue.Queue.requests.Goals as goal

pub returns-clause-value : goal.returns-clause-value
returns-clause-value c = grind (arith, common_steps)

pub returns-clause-order : goal.returns-clause-order
returns-clause-order c = grind (arith, common_steps)
