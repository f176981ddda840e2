-- The lines of records.
use Rattle.std.specs.Prelude.{ℕ, ◌+◌, ◌-◌, ◌/◌, zero, suc, List, [], ◌∷◌, ◌++◌, length, take, drop, replicate}
use Rattle.std.specs.List.{flat_map}

-- A line of a record: how many of its bytes it holds, at most 62; 1 where the record ends with it, and else 0; these bytes; zeros.
unfoldable pub line_with : ℕ → List ℕ → List ℕ
line_with last bytes = length bytes ∷ last ∷ (bytes ++ replicate (62 - length bytes) 0)

-- so many lines that go on, and a last one
abbrev pub lines_from : ℕ → List ℕ → List (List ℕ)
lines_from zero bytes = line_with 1 bytes ∷ []
lines_from (suc more) bytes = line_with 0 (take 62 bytes) ∷ lines_from more (drop 62 bytes)

-- the lines of a record: at least one, as few as hold its bytes
abbrev pub lines_of : List ℕ → List (List ℕ)
lines_of bytes = lines_from ((length bytes - 1) / 62) bytes

-- how many lines these are
abbrev pub size_of : List ℕ → ℕ
size_of bytes = (length bytes - 1) / 62 + 1

-- the lines of records, one behind another, and how many these are
abbrev pub spelled : List (List ℕ) → List (List ℕ)
spelled records = flat_map lines_of records

abbrev pub sizes_of : List (List ℕ) → ℕ
sizes_of records = length (spelled records)
