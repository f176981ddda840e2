use Rattle.wpq_core.proofs.queue.Wpq.writes.Goals as goal

pub returns-clause-writes : goal.returns-clause-writes
returns-clause-writes c = search
