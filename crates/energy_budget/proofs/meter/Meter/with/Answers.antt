use Rattle.std.proofs.Common.{refl}
use Rattle.energy_budget.proofs.meter.Meter.with.Goals as goal

pub returns-clause-lie : goal.returns-clause-lie
returns-clause-lie c = refl
