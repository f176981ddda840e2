use Rattle.energy_budget.proofs.meter.MeterEnergy.sense.Goals as goal

pub returns-clause-reads : goal.returns-clause-reads
returns-clause-reads c = c.read.ensures.reads

pub returns-clause-level : goal.returns-clause-level
returns-clause-level c = c.read.ensures.level

pub returns-clause-faults : goal.returns-clause-faults
returns-clause-faults c = c.read.ensures.faults

pub returns-clause-lie : goal.returns-clause-lie
returns-clause-lie c = c.read.ensures.lie
