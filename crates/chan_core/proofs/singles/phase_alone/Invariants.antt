use Rattle.std.proofs.Common.{ℕ, ◌<◌, List, IsTrue}
use Rattle.chan_core.proofs.Common.{Stamped, Stands, is_asleep}
use Rattle.chan_core.proofs.singles.phase_alone.Given as goal

abbrev pub invariant-loop-rank : goal.invariant-loop-rank
invariant-loop-rank l = (list : List Stamped) → Stands l.banks list → (rank : ℕ) → rank < l.rank → IsTrue (is_asleep rank list)
