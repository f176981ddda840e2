use Rattle.std.proofs.Common.{◌≡◌, ◌≤◌, List, None, IfSome}
use Rattle.frfcfs.proofs.Common.{IsRankNext, Stamped, Stands}
use Rattle.frfcfs.proofs.search.soonest_rank.Given as goal

abbrev pub invariant-loop-rank : goal.invariant-loop-rank
invariant-loop-rank l = record {
  span : IfSome l.best (λ next. (l.now ≤ next.clock) × (next.clock ≤ l.last) × (next.serves ≡ None));
  next : (list : List Stamped) → Stands l.banks list → IsRankNext l.banks.checked list l.now l.last 0 l.rank l.best;
}
