-- Where records begin in a ring.
use Rattle.std.specs.Prelude.{ℕ, ◌+◌, ◌-◌, ◌%◌, ◌<◌, ◌≡◌, ◌^◌, List, [], ◌∷◌, drop, take}
use Rattle.journal_log.specs.Lines.{size_of, sizes_of}
use Rattle.journal_log.specs.Log.{Log}

-- the place of each record in a memory of so many lines, where the first one begins at this place
abbrev pub places_of : ℕ → ℕ → List (List ℕ) → List ℕ
places_of lines at [] = []
places_of lines at (bytes ∷ rest) = at % (lines - 1) ∷ places_of lines (at + size_of bytes) rest

-- a head's numbers may be those of a journal in so many lines
pub record HeadFits (gone first used lines : ℕ) : Type 0 where
  pub place : first < lines
  pub room : used < lines
  pub numbers : gone + used < 2 ^ 64

-- The first line in use, and how many are, once so many records are cut.
pub record IsBehind (lines : ℕ) (log : Log) (cut first used : ℕ) : Type 0 where
  pub place : first ≡ (log.first + sizes_of (take cut log.records)) % (lines - 1)
  pub others : used ≡ sizes_of (drop cut log.records)
