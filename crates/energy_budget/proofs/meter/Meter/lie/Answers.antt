use Rattle.std.proofs.Common.{refl}
use Rattle.energy_budget.proofs.meter.Meter.lie.Goals as goal

pub returns-clause-gauge : goal.returns-clause-gauge
returns-clause-gauge c = refl
