-- Reads that were accepted and not collected yet, oldest first.
use Rattle.std.specs.Prelude.{◌≡◌, ◌≢◌, ℕ, ◌<◌, Bool, true, false, List, [], slice_get, slice_set, slice_index_or, Option, Some, None}
use Rattle.chan_core.specs.declared.reads.OpenRead.{OpenRead}

-- what contracts see of an open read: the bytes that it has, or is to have, and whether it was answered
pub record OpenTicket : Type 0 where
  pub serial : ℕ
  pub line : ℕ
  pub at : ℕ
  pub bytes : List ℕ
  pub answered : Bool

-- the read with its bytes: those that it was answered, or those of its cell in the array
abbrev pub ticket_with : List (List ℕ) → OpenRead → Option (List ℕ) → OpenTicket
ticket_with array read (Some bytes) = record { serial = read.serial; line = read.line; at = read.at; bytes = bytes; answered = true }
ticket_with array read None = record { serial = read.serial; line = read.line; at = read.at; bytes = slice_index_or array read.cell []; answered = false }

abbrev pub ticket_of : List (List ℕ) → OpenRead → OpenTicket
ticket_of array read = ticket_with array read read.bytes

-- where the read of a serial stands; None where no read has it
abbrev pub IsIndexOfSerial : ℕ → List OpenRead → Option ℕ → Type 0
IsIndexOfSerial serial reads None = (i : ℕ) (read : OpenRead) → slice_get reads i ≡ Some read → read.serial ≢ serial
IsIndexOfSerial serial reads (Some i) = (read : OpenRead) × (slice_get reads i ≡ Some read) × (read.serial ≡ serial)

-- a read has this seq
abbrev pub HasSeq : ℕ → List OpenRead → Type 0
HasSeq seq reads = (i : ℕ) × (read : OpenRead) × (slice_get reads i ≡ Some read) × (read.seq ≡ seq)

-- their serials rise
abbrev pub SerialsOfReadsRise : List OpenRead → Type 0
SerialsOfReadsRise reads = (i j : ℕ) (r s : OpenRead) → i < j → slice_get reads i ≡ Some r → slice_get reads j ≡ Some s → r.serial < s.serial

-- the seqs of their requests rise
abbrev pub SeqsOfReadsRise : List OpenRead → Type 0
SeqsOfReadsRise reads = (i j : ℕ) (r s : OpenRead) → i < j → slice_get reads i ≡ Some r → slice_get reads j ≡ Some s → r.seq < s.seq

-- serials rise, below the next one, and so do the seqs of the requests
pub record ReadsRise (serial seq : ℕ) (reads : List OpenRead) : Type 0 where
  pub serials : SerialsOfReadsRise reads
  pub seqs : SeqsOfReadsRise reads
  pub below : (i : ℕ) (r : OpenRead) → slice_get reads i ≡ Some r → (r.serial < serial) × (r.seq < seq)

-- the read with an answer
abbrev pub answered_with : List ℕ → OpenRead → OpenRead
answered_with bytes read = record { serial = read.serial; seq = read.seq; line = read.line; cell = read.cell; at = read.at; bytes = Some bytes }

-- the read of a seq, which has this serial, has these bytes now, and all others are as they were
abbrev pub AnswersSeq : ℕ → List ℕ → ℕ → List OpenRead → List OpenRead → Type 0
AnswersSeq seq bytes serial old new = (i : ℕ) × (read : OpenRead) × (slice_get old i ≡ Some read) × (read.seq ≡ seq) × (read.serial ≡ serial) × (new ≡ slice_set old i (answered_with bytes read))
