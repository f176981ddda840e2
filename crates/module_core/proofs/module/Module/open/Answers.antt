use Rattle.std.proofs.Common.{rules}
use Rattle.nv_machine.proofs.Guarded.{guarded_new}
use Rattle.module_core.proofs.module.Module.open.Goals as goal

pub returns-clause-begins : goal.returns-clause-begins
returns-clause-begins g c = λ image device begins. search (rules, guarded_new)
