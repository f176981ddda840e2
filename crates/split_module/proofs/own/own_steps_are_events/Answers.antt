-- A channel's own steps as events of the machine.
use Rattle.nv_machine.proofs.Backing.{fewer_backs}
use Rattle.nv_machine.proofs.JoinedRuns.{join_runs}
use Rattle.split_module.proofs.OwnRuns.{came_run, guarded_waits}
use Rattle.split_module.proofs.ToldOf.{logs_looked}
use Rattle.split_module.proofs.own.own_steps_are_events.Goals as goal

pub returns-clause-events : goal.returns-clause-events
returns-clause-events c = came_run

pub returns-clause-logs : goal.returns-clause-logs
returns-clause-logs c = λ setup world logs channel log waits are of own. logs_looked setup world.machine logs are channel log of waits own

pub returns-clause-guarded : goal.returns-clause-guarded
returns-clause-guarded c = λ world logs guarded. guarded_waits world.machine _ guarded

pub returns-clause-backed : goal.returns-clause-backed
returns-clause-backed c = λ setup channel world logs comes backed. fewer_backs setup world.machine _ world.gauge comes.fewer backed

pub returns-clause-life : goal.returns-clause-life
returns-clause-life c = λ setup events replies channel first old new run comes. (_, _, join_runs setup events replies _ _ first old new run comes.run)
