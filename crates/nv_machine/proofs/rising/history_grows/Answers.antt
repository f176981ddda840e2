-- The history of a life only grows.
use Rattle.nv_machine.specs.Headline.{AnyGauge}
use Rattle.nv_machine.proofs.AcceptedWrites.{run_accepts, run_numbers}
use Rattle.nv_machine.proofs.EachEvent.{event_adds}
use Rattle.nv_machine.proofs.RisingMarks.{event_rises, along_rises, run_rises, keeps_history}
use Rattle.nv_machine.proofs.rising.history_grows.Goals as goal

pub returns-clause-event : goal.returns-clause-event
returns-clause-event c = event_rises

pub returns-clause-adds : goal.returns-clause-adds
returns-clause-adds c = event_adds

pub returns-clause-along : goal.returns-clause-along
returns-clause-along c = along_rises

pub returns-clause-whole : goal.returns-clause-whole
returns-clause-whole c = run_rises

pub returns-clause-stays : goal.returns-clause-stays
returns-clause-stays c = keeps_history

pub returns-clause-accepts : goal.returns-clause-accepts
returns-clause-accepts c = run_accepts AnyGauge

pub returns-clause-numbers : goal.returns-clause-numbers
returns-clause-numbers c = run_numbers AnyGauge
