use Rattle.std.proofs.Common.{rules}
use Rattle.command_line.proofs.command.words_of.Goals as goal

pub returns-in-Err-2 : goal.returns-in-Err-2
returns-in-Err-2 g c = search rules
