use Rattle.line_memory.proofs.Moving.{cut_again, told_the_same}
use Rattle.line_memory.proofs.cuts.cuts_keep_what_is_told.Goals as goal

pub returns-clause-tells : goal.returns-clause-tells
returns-clause-tells c = told_the_same

pub returns-clause-again : goal.returns-clause-again
returns-clause-again c = cut_again
