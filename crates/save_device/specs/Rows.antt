-- Rows of bytes, and what a call does to them.
use Rattle.std.specs.Prelude.{◌≡◌, ℕ, ◌+◌, ◌<◌, ◌≤◌, List, length, slice_index}
use Rattle.std.specs.List.{replace_range}

-- old with these elements from this place on
abbrev pub overwritten : {X : Type 0} → List X → ℕ → List X → List X
overwritten old at bytes = replace_range old at (at + length bytes) bytes

-- one of the n places from `at` on
abbrev pub IsInRange : ℕ → ℕ → ℕ → Type 0
IsInRange at n place = (at ≤ place) × (place < at + n)

-- rows of one length that differ at most at these places
pub record DiffersOnlyAt (places : ℕ → Type 0) (old new : List ℕ) : Type 0 where
  pub size : length new ≡ length old
  pub outside : (place : ℕ) → ¬ places place → slice_index new place ≡ slice_index old place
