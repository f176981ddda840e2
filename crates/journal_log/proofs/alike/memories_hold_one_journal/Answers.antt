use Rattle.journal_log.proofs.Reading.{alike, fresh}
use Rattle.journal_log.proofs.alike.memories_hold_one_journal.Goals as goal

pub returns-clause-alike : goal.returns-clause-alike
returns-clause-alike c = alike

pub returns-clause-fresh : goal.returns-clause-fresh
returns-clause-fresh c = fresh
