use Rattle.board_hosts.proofs.host.Host.check.Goals as goal

pub returns-then-number-mark-clause-below : goal.returns-then-number-mark-clause-below
returns-then-number-mark-clause-below g c = c.if-number-mark.true
