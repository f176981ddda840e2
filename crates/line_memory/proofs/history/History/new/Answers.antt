use Rattle.std.proofs.Common.{rules}
use Rattle.line_memory.proofs.history.History.new.Goals as goal

pub returns-in-Ok-clause-ok : goal.returns-in-Ok-clause-ok
returns-in-Ok-clause-ok c = search rules
