-- What makes two ways between lines and places a map of a geometry.
use Rattle.std.specs.Prelude.{◌≡◌, ℕ, ◌<◌}
use Rattle.ddr4_timing.specs.declared.timing.Geometry.{Geometry}
use Rattle.ddr4_timing.specs.declared.place.Place.{Place}
use Rattle.ddr4_timing.specs.Limits.{lines_of}
use Rattle.ddr4_timing.specs.Places.{LiesIn}

-- Two functions: each line's place lies in the geometry and gives the line back.
pub record IsInverse (g : Geometry) (split : ℕ → Place) (join : Place → ℕ) : Type 0 where
  pub lies_in : (line : ℕ) → line < lines_of g → LiesIn g (split line)
  pub back : (line : ℕ) → line < lines_of g → join (split line) ≡ line

-- Two closures, by when they may be called and what a call may give: each line can be split, which gives its place alone; that
-- lies in the geometry, can be joined, and gives the line back alone.
pub record AreInverse (g : Geometry) (place_of : ℕ → Place)
    (can_split : ℕ → Type 0) (splits : ℕ → Place → Type 0)
    (can_join : Place → Type 0) (joins : Place → ℕ → Type 0) : Type 0 where
  pub callable : (line : ℕ) → line < lines_of g → can_split line
  pub place : (line : ℕ) (place : Place) → line < lines_of g → splits line place → place ≡ place_of line
  pub lies_in : (line : ℕ) → line < lines_of g → LiesIn g (place_of line)
  pub callable_back : (line : ℕ) → line < lines_of g → can_join (place_of line)
  pub line : (line : ℕ) → line < lines_of g → joins (place_of line) line
  pub back : (line back : ℕ) → line < lines_of g → joins (place_of line) back → back ≡ line

-- What follows: each line's place lies in the geometry, no two lines share a place, and each place is one line's.
pub record IsInterleaving (g : Geometry) (place_of : ℕ → Place) : Type 0 where
  pub lies_in : (line : ℕ) → line < lines_of g → LiesIn g (place_of line)
  pub apart : (line other : ℕ) → line < lines_of g → other < lines_of g → place_of line ≡ place_of other → line ≡ other
  pub onto : (place : Place) → LiesIn g place → (line : ℕ) × (line < lines_of g) × (place_of line ≡ place)
