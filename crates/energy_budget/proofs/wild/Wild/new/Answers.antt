use Rattle.std.proofs.Common.{refl}
use Rattle.energy_budget.proofs.wild.Wild.new.Goals as goal

pub returns-clause-gauge : goal.returns-clause-gauge
returns-clause-gauge c = rw (c.new.ensures, c.new-2.ensures) refl
