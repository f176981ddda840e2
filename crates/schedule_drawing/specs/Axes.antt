-- Where clocks stand across a picture.
use Rattle.std.specs.Prelude.{◌≡◌, ◌↔◌, ◌+◌, ◌-◌, ◌*◌, ◌^◌, ℕ, List, [], ◌∷◌, ◌++◌, Contains, Option, None, Some, filter, flat_map, false, if◌then◌else◌, min, nat_le, nat_lt}
use Rattle.std.specs.List.Sorted.{IsStrictlyIncreasing}
use Rattle.schedule_drawing.specs.declared.axis.Knot.{Knot}
use Rattle.schedule_drawing.specs.declared.schedule.Schedule.{Schedule}
use Rattle.schedule_drawing.specs.declared.shapes.Shape.{Shape}
use Rattle.schedule_drawing.specs.Drawing.{shape_from, shape_to}
use Rattle.schedule_drawing.specs.Range.{is_within}

-- the clocks at which a shape begins and ends
abbrev pub clocks_of_shape : Shape → List ℕ
clocks_of_shape shape = shape_from shape ∷ shape_to shape ∷ []

-- the clocks that are shown at which a life begins, and those at which a shape begins or ends
abbrev pub clocks_shown : Schedule → List ℕ
clocks_shown schedule = filter (is_within schedule.first schedule.last) schedule.begins.items ++ flat_map clocks_of_shape schedule.shapes.items

-- the same numbers, each once, in their order
pub record AreInOrder (numbers ordered : List ℕ) : Type 0 where
  pub rise : IsStrictlyIncreasing ordered
  pub each : (n : ℕ) → Contains ordered n ↔ Contains numbers n

-- so many pixels further to the right, at most at the last one of 64 bits
abbrev pub right_of : ℕ → ℕ → ℕ
right_of x pixels = min (x + pixels) (2 ^ 64 - 1)

-- the left edge of a picture that begins with a clock
abbrev pub edge_at : ℕ → Knot
edge_at first = record { clock = first; x = 0; is_cut = false }

-- The next clock of a picture: six pixels to the right for each clock that passed. A time of more than 24 clocks is cut to 24.
abbrev pub knot_behind : Knot → ℕ → Knot
knot_behind last clock = record {
  clock = clock;
  x = right_of last.x (min (clock - last.clock) 24 * 6);
  is_cut = nat_lt 24 (clock - last.clock);
}

abbrev pub knots_from : Knot → List ℕ → List Knot
knots_from last [] = []
knots_from last (clock ∷ clocks) = knot_behind last clock ∷ knots_from (knot_behind last clock) clocks

-- the clocks of a schedule from left to right, from the first one that it shows
pub record AreKnotsOf (schedule : Schedule) (knots : List Knot) : Type 0 where
  pub clocks : List ℕ
  pub ordered : AreInOrder (clocks_shown schedule) clocks
  pub knots_are : knots ≡ knots_from (edge_at schedule.first) clocks

-- a clock stands with the last knot up to it, or where the first number says if there is none
abbrev pub x_from : ℕ → List Knot → ℕ → ℕ
x_from x [] clock = x
x_from x (knot ∷ knots) clock = if nat_le knot.clock clock then x_from knot.x knots clock else x

abbrev pub x_at : List Knot → ℕ → ℕ
x_at knots clock = x_from 0 knots clock

-- where the last knot stands
abbrev pub place_of_last : Option Knot → ℕ
place_of_last None = 0
place_of_last (Some knot) = knot.x
