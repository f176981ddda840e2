use Rattle.module_core.proofs.Common.{rules, ◌∙◌}
use Rattle.module_core.proofs.LostModules.{loses_reads}
use Rattle.module_core.proofs.module.Module.begin_closing.Goals as goal

pub returns-clause-ends : goal.returns-clause-ends
returns-clause-ends g c = search (rules, loses_reads)

pub returns-clause-cost : goal.returns-clause-cost
returns-clause-cost g c numbers = c.lose_mains.ensures.cost numbers ∙ c.hold.ensures.cost numbers
