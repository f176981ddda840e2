use Rattle.std.proofs.Common.{rules}
use Rattle.line_memory.proofs.history.History.push.Goals as goal

pub returns : goal.returns
returns c = search rules
