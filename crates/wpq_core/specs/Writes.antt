-- Pending writes, oldest first.
use Rattle.std.specs.Prelude.{◌≡◌, ◌≢◌, ℕ, ◌<◌, List, remove, slice_get, Option, Some, None}
use Rattle.wpq_core.specs.declared.queue.PendingWrite.{PendingWrite}

-- a pending write by its parts
abbrev pub pending_write : ℕ → ℕ → List ℕ → PendingWrite
pending_write number line bytes = record { number = number; write = record { line = line; «data» = bytes } }

-- every pending write came before this number
pub record ComeBefore (number : ℕ) (writes : List PendingWrite) : Type 0 where
  pub each : (i : ℕ) (w : PendingWrite) → slice_get writes i ≡ Some w → w.number < number

-- their numbers rise
abbrev pub NumbersRise : List PendingWrite → Type 0
NumbersRise writes = (i j : ℕ) (v w : PendingWrite) → i < j → slice_get writes i ≡ Some v → slice_get writes j ≡ Some w → v.number < w.number

-- no pending write names the line
abbrev pub NoWriteNames : ℕ → List PendingWrite → Type 0
NoWriteNames line writes = (i : ℕ) (w : PendingWrite) → slice_get writes i ≡ Some w → w.write.line ≢ line

-- None where no pending write names the line, and else the data of one that does, with none behind it that does
abbrev pub IsNewest : ℕ → List PendingWrite → Option (List ℕ) → Type 0
IsNewest line writes None = NoWriteNames line writes
IsNewest line writes (Some bytes) =
    (i : ℕ) × (w : PendingWrite) × (slice_get writes i ≡ Some w) × (w.write.line ≡ line) × (w.write.«data» ≡ bytes)
    × ((j : ℕ) (v : PendingWrite) → i < j → slice_get writes j ≡ Some v → v.write.line ≢ line)

-- no older pending write names the line of the i-th
abbrev pub IsFirstOfItsLine : List PendingWrite → ℕ → Type 0
IsFirstOfItsLine writes i = (j : ℕ) (v w : PendingWrite) → j < i → slice_get writes j ≡ Some v → slice_get writes i ≡ Some w → v.write.line ≢ w.write.line

-- where the write of a number stands; None where no write has it
abbrev pub IsPlaceOfWrite : ℕ → List PendingWrite → Option ℕ → Type 0
IsPlaceOfWrite number writes None = (i : ℕ) (w : PendingWrite) → slice_get writes i ≡ Some w → w.number ≢ number
IsPlaceOfWrite number writes (Some i) = (w : PendingWrite) × (slice_get writes i ≡ Some w) × (w.number ≡ number)

-- Some data where the write of that number goes out and has them; None where no write has the number, and all stay
abbrev pub TakesWrite : ℕ → List PendingWrite → Option (List ℕ) → List PendingWrite → Type 0
TakesWrite number old None new = IsPlaceOfWrite number old None × (new ≡ old)
TakesWrite number old (Some bytes) new =
    (i : ℕ) × (w : PendingWrite) × (slice_get old i ≡ Some w) × (w.number ≡ number) × (w.write.«data» ≡ bytes) × (new ≡ remove old i)
