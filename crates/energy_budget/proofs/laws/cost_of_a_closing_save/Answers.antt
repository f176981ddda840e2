use Rattle.std.proofs.Common.{◌+◌, arith}
use Rattle.energy_budget.proofs.Totals.{closing-cost, closing-steps, cost-dearest, repeats-cost, total_cost-cons, total_cost-append, cost-drain_actions, cost-page_actions, cost-save_actions}
use Rattle.energy_budget.proofs.laws.cost_of_a_closing_save.Goals as goal

pub returns-clause-reserve : goal.returns-clause-reserve
returns-clause-reserve c = closing-cost

pub returns-clause-steps : goal.returns-clause-steps
returns-clause-steps c = closing-steps

pub returns-clause-action : goal.returns-clause-action
returns-clause-action c = total_cost-cons

pub returns-clause-drain : goal.returns-clause-drain
returns-clause-drain c = cost-drain_actions

pub returns-clause-pages : goal.returns-clause-pages
returns-clause-pages c costs pages = omega (arith, cost-page_actions costs (pages + 1), cost-page_actions costs pages)

pub returns-clause-save : goal.returns-clause-save
returns-clause-save c = cost-save_actions

pub returns-clause-lists : goal.returns-clause-lists
returns-clause-lists c = total_cost-append

pub returns-clause-dearest : goal.returns-clause-dearest
returns-clause-dearest c = cost-dearest

pub returns-clause-repeats : goal.returns-clause-repeats
returns-clause-repeats c = repeats-cost
