use Rattle.std.proofs.Common.{rules}
use Rattle.frfcfs.proofs.best.Best.offer.Goals as goal

pub returns-then-from-self : goal.returns-then-from-self
returns-then-from-self c = search rules
