-- Runs in turn are one.
use Rattle.nv_machine.proofs.JoinedRuns.{any_run, join_any, join_runs, rests_paused}
use Rattle.nv_machine.proofs.turns.runs_join.Goals as goal

pub returns-clause-joined : goal.returns-clause-joined
returns-clause-joined c = join_runs

pub returns-clause-any_joined : goal.returns-clause-any_joined
returns-clause-any_joined c = join_any

pub returns-clause-any : goal.returns-clause-any
returns-clause-any c = any_run

pub returns-clause-paused : goal.returns-clause-paused
returns-clause-paused c = λ setup. rests_paused
