use Rattle.std.proofs.Common.{rules}
use Rattle.frfcfs.proofs.search.sooner.Goals as goal

pub returns-else-x-y : goal.returns-else-x-y
returns-else-x-y c = search rules
