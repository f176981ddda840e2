use Rattle.std.proofs.Common.{◌≡◌, ℕ, ◌<◌, ◌≤◌, List, length, get_or}
use Rattle.frfcfs.proofs.Common.{IsEnd, Stamped, Stands, limit_of}
use Rattle.frfcfs.proofs.search.ends.Given as goal

abbrev pub invariant-loop-rank : goal.invariant-loop-rank
invariant-loop-rank l = record {
  size : length l.ends ≡ 4;
  early : (k : ℕ) → get_or l.ends k 0 ≤ limit_of l.last;
  ends : (list : List Stamped) → Stands l.banks list → (k : ℕ) → k < l.rank → IsEnd l.banks.checked list k l.last (get_or l.ends k 0);
}
