use Rattle.std.proofs.Common.{take}
use Rattle.request_notes.specs.Notes.{AreNotes}
use Rattle.request_notes.proofs.notes.Notes.renew.Given as goal

abbrev pub invariant-loop-place : goal.invariant-loop-place
invariant-loop-place l = AreNotes (take l.place l.keys) l.self
