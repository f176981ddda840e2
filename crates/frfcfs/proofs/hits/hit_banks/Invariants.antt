use Rattle.std.proofs.Common.{◌≡◌, ℕ, ◌<◌, ◌↔◌, List, length, IsTrue}
use Rattle.frfcfs.proofs.Common.{Stamped, Stands}
use Rattle.frfcfs.proofs.HitLemmas.{AreFlags, WaitsAt}
use Rattle.frfcfs.proofs.hits.hit_banks.Given as goal

abbrev pub invariant-loop-i : goal.invariant-loop-i
invariant-loop-i l = record {
  size : length l.hit ≡ 64;
  hits : (list : List Stamped) → Stands l.banks list → AreFlags l.banks.checked.geometry list l.pending l.i l.hit;
  any : IsTrue l.any ↔ ((k : ℕ) × (k < l.i) × WaitsAt l.banks.checked.geometry l.pending k);
}
