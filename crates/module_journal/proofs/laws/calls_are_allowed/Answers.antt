use Rattle.module_journal.proofs.Allowing.{append_allowed, truncate_allowed}
use Rattle.module_journal.proofs.laws.calls_are_allowed.Goals as goal

pub returns-clause-append : goal.returns-clause-append
returns-clause-append c = append_allowed

pub returns-clause-truncate : goal.returns-clause-truncate
returns-clause-truncate c = truncate_allowed
