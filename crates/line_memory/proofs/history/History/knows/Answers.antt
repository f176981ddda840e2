use Rattle.std.proofs.Common.{rules}
use Rattle.line_memory.proofs.history.History.knows.Goals as goal

pub returns-else-self-at : goal.returns-else-self-at
returns-else-self-at c = search rules
