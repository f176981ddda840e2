-- What a stop leaves of a life so far.
use Rattle.energy_budget.proofs.Charging.{rises_none}
use Rattle.energy_budget.specs.Charging.{RisesTo}
use Rattle.nv_machine.specs.Headline.{AnyGauge}
use Rattle.nv_machine.proofs.JoinedRuns.{any_same}
use Rattle.nv_machine.proofs.StoppedRuns.{stops_survived}
use Rattle.nv_machine.proofs.survival.runs_survive.Goals as goal

pub returns-clause-any_gauge : goal.returns-clause-any_gauge
returns-clause-any_gauge c = stops_survived AnyGauge any_same

pub returns-clause-one_gauge : goal.returns-clause-one_gauge
returns-clause-one_gauge c = stops_survived RisesTo rises_none
