use Rattle.request_notes.proofs.NoteLemmas.{notes_none, notes_repeated}
use Rattle.request_notes.proofs.notes.Notes.none.Goals as goal

pub returns : goal.returns
returns c = notes_none _ c.none-2.result (notes_repeated c.none.result c.none.ensures) c.none-2.ensures
