use Rattle.frfcfs.proofs.KeyLemmas.{new_line}
use Rattle.frfcfs.proofs.QueueLemmas.{lines}
use Rattle.frfcfs.proofs.queue.is_new.Goals as goal

pub returns-then-lack : goal.returns-then-lack
returns-then-lack c requests are counted = (λ lacked. (new_line c.args.line requests c.args.keys.now are).1 (c.lack.ensures (lines requests) counted lacked), λ _. c.if-lack.true)
