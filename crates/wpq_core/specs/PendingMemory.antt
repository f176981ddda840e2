-- A memory whose newest writes are still pending.
use Rattle.std.specs.Prelude.{◌≡◌, ℕ, ◌<◌, List, [], length, map, remove, slice_get, slice_index_or, Option, Some, None}
use Rattle.line_memory.specs.Memory.{after, after_write}
use Rattle.wpq_core.specs.declared.queue.PendingWrite.{PendingWrite}
use Rattle.wpq_core.specs.Writes.{IsNewest}

-- an array's lines after the pending writes, in their order
abbrev pub after_pending : List (List ℕ) → List PendingWrite → List (List ℕ)
after_pending array writes = after array (map (λ w. w.write) writes)

-- the data, or else this line
abbrev pub data_or : Option (List ℕ) → List ℕ → List ℕ
data_or None line = line
data_or (Some bytes) line = bytes

-- each line of the memory after the pending writes is the newest pending write's data of that line, or else the array's
abbrev pub HasNewestData : List (List ℕ) → List PendingWrite → Type 0
HasNewestData array writes =
    (line : ℕ) (newest : Option (List ℕ)) → line < length array → IsNewest line writes newest →
    slice_index_or (after_pending array writes) line [] ≡ data_or newest (slice_index_or array line [])

-- with the i-th pending write in the array, and no longer pending, the memory after the pending writes is the same
abbrev pub MayGoEarly : List (List ℕ) → List PendingWrite → ℕ → Type 0
MayGoEarly array writes i =
    (pending : PendingWrite) → slice_get writes i ≡ Some pending →
    after_pending (after_write array pending.write) (remove writes i) ≡ after_pending array writes
