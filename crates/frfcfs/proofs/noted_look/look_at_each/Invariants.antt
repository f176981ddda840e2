use Rattle.std.proofs.Common.{ℕ, List}
use Rattle.request_notes.specs.BankSets.{Has}
use Rattle.request_notes.specs.Notes.{AreNotes}
use Rattle.frfcfs.specs.NotedLook.{AreNotedFound, AreSoonestBut}
use Rattle.frfcfs.specs.Search.{AreEnds}
use Rattle.frfcfs.proofs.Common.{AreKeysIn, Key, Pending, Stamped, Stands, limit_of}
use Rattle.frfcfs.proofs.noted_look.look_at_each.Given as goal

abbrev pub invariant-loop-bank : goal.invariant-loop-bank
invariant-loop-bank l = record {
  within : (n : ℕ) → Has l.left n → Has l.notes.wanted n;
  found : (keys : List Key) → AreNotes keys l.notes → AreNotedFound keys l.now (limit_of l.last) l.look;
  soonest : (list : List Stamped) (pending : List Pending) (keys : List Key) → Stands l.banks list → AreEnds l.banks.checked list l.last l.ends → AreKeysIn l.banks.checked.geometry pending keys → AreNotes keys l.notes →
      AreSoonestBut l.banks.checked list pending l.now l.last (limit_of l.last) l.left l.look;
}

abbrev pub decreases-loop-bank : goal.decreases-loop-bank
decreases-loop-bank l = l.left.bits
