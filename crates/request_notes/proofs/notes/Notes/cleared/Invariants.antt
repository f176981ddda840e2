use Rattle.std.proofs.Common.{◌≡◌, length}
use Rattle.request_notes.proofs.NoteLemmas.{AreClearedUpto}
use Rattle.request_notes.proofs.notes.Notes.cleared.Given as goal

abbrev pub invariant-loop-bank : goal.invariant-loop-bank
invariant-loop-bank l = AreClearedUpto l.banks l.bank × (length l.banks ≡ 64)
