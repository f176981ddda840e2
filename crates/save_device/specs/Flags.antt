-- Flags of places, and a span that holds all that are up.
use Rattle.std.specs.Prelude.{◌≡◌, ◌⊎◌, ℕ, ◌<◌, ◌≤◌, List, length, Bool, true, false, slice_index, slice_index_or}

-- this flag is up
abbrev pub IsUp : List Bool → ℕ → Type 0
IsUp flags k = slice_index_or flags k false ≡ true

-- each flag that is up has a place from `low` on and below `high`
abbrev pub AllUpWithin : ℕ → ℕ → List Bool → Type 0
AllUpWithin low high flags = (k : ℕ) → slice_index_or flags k false ≡ true → (low ≤ k) × (k < high)

-- new is old with the bytes of `from` at the places from `low` on and below `high`
pub record CopiedWithin (low high : ℕ) (from old new : List ℕ) : Type 0 where
  pub size : length new ≡ length old
  pub inside : (k : ℕ) → low ≤ k → k < high → slice_index new k ≡ slice_index from k
  pub outside : (k : ℕ) → (k < low) ⊎ (high ≤ k) → slice_index new k ≡ slice_index old k

-- new is old with no flag up at the places from `low` on and below `high`
pub record ClearedWithin (low high : ℕ) (old new : List Bool) : Type 0 where
  pub size : length new ≡ length old
  pub inside : (k : ℕ) → low ≤ k → k < high → slice_index_or new k false ≡ false
  pub outside : (k : ℕ) → (k < low) ⊎ (high ≤ k) → slice_index_or new k false ≡ slice_index_or old k false
