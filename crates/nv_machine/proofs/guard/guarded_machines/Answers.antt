-- What is known of a guarded machine.
use Rattle.nv_machine.proofs.EachEvent.{guarded_event}
use Rattle.nv_machine.proofs.Guarded.{cut_below, guarded_cut, guarded_new, mains_last, memory_made, newest_alone, opened_persisted, persisted_accepted, unarmed_made}
use Rattle.nv_machine.proofs.guard.guarded_machines.Goals as goal

pub returns-clause-begins : goal.returns-clause-begins
returns-clause-begins c = guarded_new

pub returns-clause-stays : goal.returns-clause-stays
returns-clause-stays c = guarded_event

pub returns-clause-cut : goal.returns-clause-cut
returns-clause-cut c = guarded_cut

pub returns-clause-holds_cut : goal.returns-clause-holds_cut
returns-clause-holds_cut c = cut_below

pub returns-clause-opened : goal.returns-clause-opened
returns-clause-opened c = opened_persisted

pub returns-clause-accepted : goal.returns-clause-accepted
returns-clause-accepted c = persisted_accepted

pub returns-clause-mains : goal.returns-clause-mains
returns-clause-mains c = mains_last

pub returns-clause-memory : goal.returns-clause-memory
returns-clause-memory c = memory_made

pub returns-clause-unarmed : goal.returns-clause-unarmed
returns-clause-unarmed c = unarmed_made

pub returns-clause-alone : goal.returns-clause-alone
returns-clause-alone c = newest_alone
