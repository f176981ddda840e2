-- Writes wait in order.
use Rattle.nv_machine.proofs.OrderedWrites.{dark_order, none_order, run_order}
use Rattle.nv_machine.proofs.PaidEntries.{dark_count}
use Rattle.nv_machine.proofs.order.oldest_go_first.Goals as goal

pub returns-clause-begins : goal.returns-clause-begins
returns-clause-begins c = λ slot closed image. none_order _

pub returns-clause-keeps : goal.returns-clause-keeps
returns-clause-keeps c = run_order

pub returns-clause-dark : goal.returns-clause-dark
returns-clause-dark c = dark_order

pub returns-clause-count : goal.returns-clause-count
returns-clause-count c = dark_count
