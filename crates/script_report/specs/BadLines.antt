-- Which lines of a text are none of a script.
use Rattle.std.specs.Prelude.{◌≡◌, ◌⊎◌, ℕ, ◌+◌, ◌<◌, ◌≤◌, List, [], length, get_or, map, All, AllPairs, Contains}
use Rattle.ddr4_timing.specs.declared.timing.Geometry.{Geometry}
use Rattle.nv_profile.specs.Nothing.{HoldsOfNone}
use Rattle.nv_script.specs.Texts.{ReadsAs, text_lines}
use Rattle.nv_script.specs.declared.reading.TheConstants.{MOST_SCRIPT_LINES}
use Rattle.script_report.specs.declared.lint.BadLine.{BadLine}

-- the line with this number, counted from 1, comes to nothing, or is the first behind the last that a script may have
pub record IsBadLine (geometry : Geometry) (texts : List (List ℕ)) (number : ℕ) : Type 0 where
  pub place : ℕ
  pub numbered : number ≡ place + 1
  pub within : place < length texts
  pub reached : place ≤ MOST_SCRIPT_LINES
  pub bad : (place ≡ MOST_SCRIPT_LINES) ⊎ HoldsOfNone (ReadsAs geometry (get_or texts place []))

abbrev pub numbers_of : List BadLine → List ℕ
numbers_of bad = map (λ line. line.number) bad

-- each of them is told, and no other line, in their order
pub record AreBadLines (geometry : Geometry) (text : List ℕ) (bad : List BadLine) : Type 0 where
  pub are : All (IsBadLine geometry (text_lines text)) (numbers_of bad)
  pub each : (number : ℕ) → IsBadLine geometry (text_lines text) number → Contains (numbers_of bad) number
  pub rising : AllPairs (λ x y. x < y) (numbers_of bad)
