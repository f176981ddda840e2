-- What of a shape lies in a range of clocks.
use Rattle.std.specs.Prelude.{ℕ, Bool, ◌&&◌, ◌||◌, if◌then◌else◌, Option, None, Some, max, min, nat_le, nat_lt}
use Rattle.schedule_drawing.specs.declared.shapes.Shape.{Shape}
use Rattle.schedule_drawing.specs.declared.shapes.Shape.TheVariants as shape
use Rattle.schedule_drawing.specs.Drawing.{shape_from, shape_to}

abbrev pub is_within : ℕ → ℕ → ℕ → Bool
is_within first last clock = nat_le first clock && nat_le clock last

-- as far as it lies from one clock to another: a row that goes on behind them isn't closed there
abbrev pub cut_to : ℕ → ℕ → Shape → Shape
cut_to first last (shape.Mark lane clock command) = shape.Mark lane clock command
cut_to first last (shape.Row lane row from to is_closed) = shape.Row lane row (max from first) (min to last) (is_closed && nat_le to last)
cut_to first last (shape.Data lane from to command) = shape.Data lane (max from first) (min to last) command
cut_to first last (shape.Refresh lane from to) = shape.Refresh lane (max from first) (min to last)

-- where something of it does; in a range that ends before it begins nothing does
abbrev pub part_within : ℕ → ℕ → Shape → Option Shape
part_within first last it = if nat_lt (shape_to it) first || nat_lt last (shape_from it) || nat_lt last first then None else Some (cut_to first last it)
