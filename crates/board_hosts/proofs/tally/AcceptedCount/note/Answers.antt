use Rattle.board_hosts.proofs.tally.AcceptedCount.note.Goals as goal

pub returns-in-Ok-clause-history : goal.returns-in-Ok-clause-history
returns-in-Ok-clause-history g c = rw c.in-Ok.is c.push.ensures

pub returns-in-Ok-clause-total : goal.returns-in-Ok-clause-total
returns-in-Ok-clause-total g c = rw c.in-Ok.is c.add.ensures.total

pub returns-in-Ok-clause-amount : goal.returns-in-Ok-clause-amount
returns-in-Ok-clause-amount g c = rw c.in-Ok.is c.add.ensures.amount
