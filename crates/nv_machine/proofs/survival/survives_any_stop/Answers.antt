-- What a restore finds after lives in a chain.
use Rattle.nv_machine.proofs.SurvivedLives.{front_chained, survived}
use Rattle.nv_machine.proofs.survival.survives_any_stop.Goals as goal

pub returns-clause-survived : goal.returns-clause-survived
returns-clause-survived c = survived

pub returns-clause-fronts : goal.returns-clause-fronts
returns-clause-fronts c = front_chained
