-- The changes of a table, and their records.
use Rattle.std.specs.Prelude.{ℕ, List, ◌∷◌, ◌++◌, length, fold, bytes_eq, Option, Some, None, if◌then◌else◌}
use Rattle.std.specs.Int.{w64, to_le_bytes}

-- A key gets a value, or goes.
pub data Change : Type 0 where
  Put : List ℕ → List ℕ → Change
  Remove : List ℕ → Change

abbrev pub key_of : Change → List ℕ
key_of (Put key value) = key
key_of (Remove key) = key

-- the record of a change: 1 where the key gets a value, and 0 where it goes; how many bytes the key has, in eight bytes, the lowest
-- first; the key; and the value
abbrev pub record_of : Change → List ℕ
record_of (Put key value) = 1 ∷ (to_le_bytes w64 (length key) ++ (key ++ value))
record_of (Remove key) = 0 ∷ (to_le_bytes w64 (length key) ++ key)

-- what a key has behind a change, by what it had before
abbrev pub value_behind : List ℕ → Option (List ℕ) → Change → Option (List ℕ)
value_behind key had (Put other value) = if bytes_eq key other then Some value else had
value_behind key had (Remove other) = if bytes_eq key other then None else had

-- and behind changes, one after another: the last one of the key decides
abbrev pub value_after : List ℕ → Option (List ℕ) → List Change → Option (List ℕ)
value_after key had changes = fold (value_behind key) had changes
