use Rattle.std.proofs.Common.{List, length}
use Rattle.frfcfs.proofs.Common.{AreBest, AreFound, AreHits, Stamped, Stands, limit_of}
use Rattle.frfcfs.proofs.search.soonest_requests.Given as goal

abbrev pub invariant-loop-index : goal.invariant-loop-index
invariant-loop-index l = record {
  found : AreFound l.banks.checked.geometry l.pending l.now (limit_of l.last) l.bests;
  best : (list : List Stamped) → Stands l.banks list → AreHits l.banks.checked.geometry list l.pending (length l.pending) l.hits →
      AreBest l.banks.checked list l.pending l.now l.last (limit_of l.last) l.index l.bests;
}
