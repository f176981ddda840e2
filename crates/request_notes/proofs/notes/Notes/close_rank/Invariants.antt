use Rattle.std.proofs.Common.{List}
use Rattle.request_notes.specs.Notes.{AreNotes}
use Rattle.request_notes.specs.declared.key.Key.{Key}
use Rattle.request_notes.proofs.notes.Notes.close_rank.Given as goal

abbrev pub invariant-loop-slot : goal.invariant-loop-slot
invariant-loop-slot l = (keys : List Key) → AreNotes keys l.fn.self → AreNotes keys l.self
