use Rattle.drain_core.proofs.Closing.{close_step}
use Rattle.drain_core.proofs.Entering.{entry_step}
use Rattle.drain_core.proofs.Sleeping.{self_refresh}
use Rattle.drain_core.proofs.Whole.{entry_steps}
use Rattle.drain_core.proofs.laws.steps_of_a_drain.Goals as goal

pub returns-clause-close : goal.returns-clause-close
returns-clause-close c = close_step

pub returns-clause-entry : goal.returns-clause-entry
returns-clause-entry _ c p place between lies = entry_step c p place lies between

pub returns-clause-entries : goal.returns-clause-entries
returns-clause-entries _ c p places between lie = entry_steps c p places lie between

pub returns-clause-sleep : goal.returns-clause-sleep
returns-clause-sleep c = self_refresh
