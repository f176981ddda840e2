-- Lives in a chain have one history.
use Rattle.nv_machine.proofs.History.{history_memory, history_count}
use Rattle.nv_machine.proofs.lives.one_history.Goals as goal

pub returns-clause-memory : goal.returns-clause-memory
returns-clause-memory c = history_memory

pub returns-clause-count : goal.returns-clause-count
returns-clause-count c = history_count
