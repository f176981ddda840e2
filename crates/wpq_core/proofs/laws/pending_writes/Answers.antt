use Rattle.wpq_core.proofs.PendingLaws.{after_pending-early, after_pending-line}
use Rattle.wpq_core.proofs.laws.pending_writes.Goals as goal

pub returns-clause-newest : goal.returns-clause-newest
returns-clause-newest c = after_pending-line

pub returns-clause-early : goal.returns-clause-early
returns-clause-early c array writes i first w at = after_pending-early array writes i w at first
