use Rattle.journal_lines.proofs.Calling.{distance_on, distance_round}
use Rattle.journal_lines.proofs.calls.ring_distance.Goals as goal

pub returns-then-to-from : goal.returns-then-to-from
returns-then-to-from c = λ k less is. distance_on c.args.from c.args.to c.args.ring k c.requires.from less is c.if-to-from.true

pub returns-else-to-from : goal.returns-else-to-from
returns-else-to-from c = λ k less is. distance_round c.args.from c.args.to c.args.ring k c.requires.from less is c.if-to-from.false
