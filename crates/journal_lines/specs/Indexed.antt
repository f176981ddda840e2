-- Where the records of a journal lie.
use Rattle.std.specs.Prelude.{◌≡◌, ℕ, ◌+◌, ◌<◌, ◌≤◌, ◌^◌, List, length}
use Rattle.std.specs.VecDeque.{deque_capacity, deque_len}
use Rattle.journal_log.specs.Lines.{size_of}
use Rattle.journal_log.specs.Log.{Log, used_by}
use Rattle.journal_lines.specs.Places.{places_of}
use Rattle.journal_lines.specs.declared.index.Index.{Index}

-- the index of a journal: it says of it where the head says that the lines in use are, and where each record begins
pub record IsIndexOf (index : Index) (log : Log) : Type 0 where
  pub gone : index.gone ≡ log.gone
  pub first : index.first ≡ log.first
  pub used : index.used ≡ used_by log
  pub places : index.places.items ≡ places_of index.lines log.first log.records

-- the number behind the last record
abbrev pub end_of_index : Index → ℕ
end_of_index index = index.gone + length index.places.items

-- there is room for a record: lines, and numbers below 2^64
pub record HasRoom (index : Index) (bytes : List ℕ) : Type 0 where
  pub lines : index.used + size_of bytes < index.lines
  pub counted : index.gone + (index.used + size_of bytes) < 2 ^ 64
  pub numbered : end_of_index index + 1 < 2 ^ 64

-- there are records below this number, and it isn't past their end
pub record IsWithin (index : Index) (upto : ℕ) : Type 0 where
  pub above : index.gone < upto
  pub most : upto ≤ end_of_index index

-- a record with this number is there
pub record HasNumber (index : Index) (number : ℕ) : Type 0 where
  pub above : index.gone ≤ number
  pub below : number < end_of_index index

-- there is memory for the place of one record more
abbrev pub HasSlot : Index → Type 0
HasSlot index = deque_len index.places < deque_capacity index.places

-- Nothing has changed but how much memory there is for places.
pub record IsSameIndex (old new : Index) : Type 0 where
  pub gone : new.gone ≡ old.gone
  pub first : new.first ≡ old.first
  pub used : new.used ≡ old.used
  pub lines : new.lines ≡ old.lines
  pub places : new.places.items ≡ old.places.items
