use Rattle.std.proofs.Common.{ℕ, ◌≤◌, List, length, get_or}
use Rattle.request_notes.specs.BankSets.{Has}
use Rattle.frfcfs.specs.Scan.{AreScanned, IsScanFound, WantsRowBut}
use Rattle.frfcfs.specs.Search.{AreEnds, IsFound}
use Rattle.frfcfs.proofs.Common.{IsBest, Stamped, Stands, Takes}
use Rattle.frfcfs.proofs.scan.Scan.soonest_row.Given as goal

abbrev pub invariant-loop-bank : goal.invariant-loop-bank
invariant-loop-bank l = record {
  within : (bank : ℕ) → Has l.left bank → Has l.self.wanting bank;
  found : (limit : ℕ) → ((rank : ℕ) → get_or l.ends rank 0 ≤ limit) → IsScanFound l.banks.checked.geometry l.pending l.now limit l.self → IsFound l.banks.checked.geometry l.pending l.now limit l.best;
  best : (list : List Stamped) (last limit : ℕ) → Stands l.banks list → AreEnds l.banks.checked list last l.ends → ((rank : ℕ) → get_or l.ends rank 0 ≤ limit) → IsScanFound l.banks.checked.geometry l.pending l.now limit l.self →
      AreScanned l.banks.checked list l.pending l.now last limit (length l.pending) l.self → IsBest (Takes (WantsRowBut list l.pending l.left) l.banks.checked list l.pending last) l.now limit (length l.pending) l.best;
}

abbrev pub decreases-loop-bank : goal.decreases-loop-bank
decreases-loop-bank l = l.left.bits
