-- What the lines in use say.
use Rattle.std.specs.Prelude.{◌==◌, ℕ, List, [], ◌∷◌, ◌++◌, take, drop, slice_index, if◌then◌else◌}
use Rattle.journal_log.specs.Log.{ring_of, rotated}

-- the lines of a memory that are in use, where so many are from this place on
abbrev pub lines_in_use : List (List ℕ) → ℕ → ℕ → List (List ℕ)
lines_in_use memory first used = take used (rotated first (ring_of memory))

-- the bytes of a record that a line holds
abbrev pub held_by : List ℕ → List ℕ
held_by line = take (slice_index line 0) (drop 2 line)

-- the bytes that lines hold, up to the first line that ends a record
abbrev pub first_of : List (List ℕ) → List ℕ
first_of [] = []
first_of (line ∷ lines) = if slice_index line 1 == 1 then held_by line else held_by line ++ first_of lines
