use Rattle.line_memory.proofs.Parting.{push, told}
use Rattle.line_memory.proofs.parts.parts_of_a_history.Goals as goal

pub returns-clause-push : goal.returns-clause-push
returns-clause-push c = push

pub returns-clause-line : goal.returns-clause-line
returns-clause-line c = told
