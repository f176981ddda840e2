-- What a queue notes of each bank.
use Rattle.std.specs.Prelude.{◌≡◌, ◌≢◌, ℕ, ◌<◌, ◌≤◌, ◌⊎◌, ◌↔◌, false, true, min, IsTrue, List, All, Contains, slice_get, slice_index_or, slice_set, Option, None, Some}
use Rattle.request_notes.specs.declared.key.Key.{Key}
use Rattle.request_notes.specs.declared.notes.Note.{Note}
use Rattle.request_notes.specs.declared.notes.Notes.{Notes}
use Rattle.request_notes.specs.declared.pending.Kind.{Kind}
use Rattle.request_notes.specs.declared.pending.Kind.TheVariants.{Read, Write}
use Rattle.request_notes.specs.BankSets.{Has}

-- The key is that of an eligible request.
abbrev pub IsFree : Key → Type 0
IsFree k = IsTrue k.first × (k.held ≡ false)

-- It is that of an eligible request of the bank,
abbrev pub IsFreeOf : ℕ → Key → Type 0
IsFreeOf bank k = IsFree k × (k.bank ≡ bank)

-- which is of the kind and wants the row.
abbrev pub IsFreeIn : ℕ → ℕ → Kind → Key → Type 0
IsFreeIn bank row kind k = IsFreeOf bank k × (k.row ≡ row) × (k.kind ≡ kind)

-- It is one of the list, of an eligible request of the bank,
abbrev pub IsOfBank : List Key → ℕ → Key → Type 0
IsOfBank keys bank k = Contains keys k × IsFree k × (k.bank ≡ bank)

-- which is of the kind and wants the row, if one is open.
abbrev pub IsHit : List Key → ℕ → Option ℕ → Kind → Key → Type 0
IsHit keys bank row kind k = IsOfBank keys bank k × (row ≡ Some k.row) × (k.kind ≡ kind)

-- The seq is the least of the keys that are meant; None where none is.
abbrev pub IsOldestSeq : (Key → Type 0) → Option ℕ → Type 0
IsOldestSeq IsMeant None = (k : Key) → ¬ IsMeant k
IsOldestSeq IsMeant (Some seq) = ((k : Key) × IsMeant k × (k.seq ≡ seq)) × ((k : Key) → IsMeant k → seq ≤ k.seq)

-- where the first key stands that passes a test, if one does
abbrev pub IsFirstIn : (Key → Type 0) → List Key → Option ℕ → Type 0
IsFirstIn Passes keys None = All (λ key. ¬ Passes key) keys
IsFirstIn Passes keys (Some i) = (key : Key) × (slice_get keys i ≡ Some key) × Passes key × ((j : ℕ) (other : Key) → j < i → slice_get keys j ≡ Some other → ¬ Passes other)

-- The note tells the oldest eligible requests of the bank: of each kind that hits the row for which it is noted, and of all.
pub record IsNoteOf (keys : List Key) (bank : ℕ) (note : Note) : Type 0 where
  pub read : IsOldestSeq (IsHit keys bank note.row Read) note.read
  pub write : IsOldestSeq (IsHit keys bank note.row Write) note.write
  pub oldest : IsOldestSeq (IsOfBank keys bank) note.oldest

-- what is noted of a bank
abbrev pub note_of : Notes → ℕ → Note
note_of notes bank = slice_index_or notes.banks bank (record { row = None; read = None; write = None; oldest = None })

-- Each bank's note is so, and the set has the banks of which an eligible request is noted.
pub record AreNotes (keys : List Key) (notes : Notes) : Type 0 where
  pub each : (bank : ℕ) → bank < 64 → IsNoteOf keys bank (note_of notes bank)
  pub wanted : (bank : ℕ) → bank < 64 → (Has notes.wanted bank ↔ ((note_of notes bank).oldest ≢ None))

-- The eligible keys of a list are those of another and one more.
abbrev pub Joins : Key → List Key → List Key → Type 0
Joins key old new = (k : Key) → IsFree k → (Contains new k ↔ (Contains old k ⊎ (k ≡ key)))

-- the less of a seq, if there is one, and another
abbrev pub older : Option ℕ → ℕ → ℕ
older None other = other
older (Some seq) other = min seq other

-- The seqs of the keys rise.
abbrev pub SeqsRise : List Key → Type 0
SeqsRise keys = (i j : ℕ) (k m : Key) → i < j → slice_get keys i ≡ Some k → slice_get keys j ≡ Some m → k.seq < m.seq

-- A key went, which was the one before these last ones of the keys.
pub record IsGone (old new later : List Key) (key : Key) : Type 0 where
  pub here : Contains old key
  pub less : (k : Key) → Contains new k → Contains old k
  pub others : (k : Key) → Contains old k → (k ≡ key) ⊎ Contains new k
  pub stay : (k : Key) → Contains later k → Contains new k
  pub behind : (k : Key) → Contains new k → Contains later k ⊎ (k.seq < key.seq)
  pub alone : (k : Key) → Contains new k → k.seq ≢ key.seq

-- The key of a list is marked as the first of its line, if there is one to mark.
abbrev pub IsMarked : List Key → Option Key → List Key → Type 0
IsMarked old None new = new ≡ old
IsMarked old (Some key) new = (i : ℕ) × (k : Key) × (slice_get old i ≡ Some k) × (key ≡ record k { first = true }) × (new ≡ slice_set old i key)
