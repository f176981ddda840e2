-- No ticket is given twice.
use Rattle.nv_machine.proofs.GivenTickets.{given_before, given_once}
use Rattle.nv_machine.proofs.tickets.tickets_are_new.Goals as goal

pub returns-clause-once : goal.returns-clause-once
returns-clause-once c = given_once

pub returns-clause-before : goal.returns-clause-before
returns-clause-before c = given_before
