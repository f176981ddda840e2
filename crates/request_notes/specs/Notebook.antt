-- What a queue notes while many requests wait.
use Rattle.std.specs.Prelude.{IsTrue, List}
use Rattle.request_notes.specs.declared.key.Key.{Key}
use Rattle.request_notes.specs.declared.notebook.Notebook.{Notebook}
use Rattle.request_notes.specs.Notes.{AreNotes}

-- Where notes are kept they are those of the keys.
abbrev pub KeepsNotes : List Key → Notebook → Type 0
KeepsNotes keys book = IsTrue book.is_kept → AreNotes keys book.notes
