use Rattle.std.proofs.Common.{rules}
use Rattle.command_line.proofs.store.lines_of.Goals as goal

pub returns-then-lines-lt-PAGE_LINES-clause-none : goal.returns-then-lines-lt-PAGE_LINES-clause-none
returns-then-lines-lt-PAGE_LINES-clause-none c = search rules
