use Rattle.std.proofs.Common.{ℕ, ◌<◌, List}
use Rattle.frfcfs.proofs.Common.{IsInLead, Stamped, Stands}
use Rattle.frfcfs.proofs.next.is_in_lead.Given as goal

abbrev pub invariant-loop-rank : goal.invariant-loop-rank
invariant-loop-rank l = (list : List Stamped) → Stands l.banks list → (rank : ℕ) → rank < l.rank → ¬ IsInLead l.banks.checked.timing list l.clock rank
