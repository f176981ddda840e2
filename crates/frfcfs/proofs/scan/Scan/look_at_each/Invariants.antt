use Rattle.std.proofs.Common.{ℕ, ◌<◌, ◌↔◌, List, IsTrue}
use Rattle.frfcfs.specs.Scan.{AreScanned, IsScanFound}
use Rattle.frfcfs.specs.Search.{AreEnds}
use Rattle.frfcfs.proofs.Common.{AreKeysIn, Pending, Stamped, Stands, limit_of}
use Rattle.frfcfs.proofs.HitLemmas.{WaitsAt}
use Rattle.frfcfs.proofs.scan.Scan.look_at_each.Given as goal

abbrev pub invariant-loop-index : goal.invariant-loop-index
invariant-loop-index l = record {
  any : (pending : List Pending) → AreKeysIn l.banks.checked.geometry pending l.keys → (IsTrue l.any ↔ ((k : ℕ) × (k < l.index) × WaitsAt l.banks.checked.geometry pending k));
  found : (pending : List Pending) → AreKeysIn l.banks.checked.geometry pending l.keys → IsScanFound l.banks.checked.geometry pending l.now (limit_of l.last) l.self;
  scanned : (list : List Stamped) (pending : List Pending) → Stands l.banks list → AreEnds l.banks.checked list l.last l.ends → AreKeysIn l.banks.checked.geometry pending l.keys → AreScanned l.banks.checked list pending l.now l.last (limit_of l.last) l.index l.self;
}
