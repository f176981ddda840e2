use Rattle.energy_budget.proofs.meter.MeterEnergy.faults.Goals as goal

pub returns : goal.returns
returns c = c.shown.ensures
