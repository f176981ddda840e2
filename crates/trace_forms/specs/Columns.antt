-- Which column of a line has which part of a command.
use Rattle.std.specs.Prelude.{◌≡◌, ◌↔◌, ℕ, ◌<◌, List, Option, Some, None, codes, slice_get, slice_index_or}
use Rattle.trace_forms.specs.declared.columns.Columns.{Columns}
use Rattle.trace_forms.specs.declared.part.Part.{Part}
use Rattle.trace_forms.specs.declared.part.Part.TheVariants as part

abbrev pub name_of_part : Part → List ℕ
name_of_part part.Clock = codes "clock"
name_of_part part.Command = codes "command"
name_of_part part.Channel = codes "channel"
name_of_part part.Rank = codes "rank"
name_of_part part.Group = codes "group"
name_of_part part.Bank = codes "bank"
name_of_part part.Row = codes "row"
name_of_part part.Column = codes "column"

abbrev pub part_number : Part → ℕ
part_number part.Clock = 0
part_number part.Command = 1
part_number part.Channel = 2
part_number part.Rank = 3
part_number part.Group = 4
part_number part.Bank = 5
part_number part.Row = 6
part_number part.Column = 7

-- the column that has the part
abbrev pub place_of : Columns → Part → Option ℕ
place_of c p = slice_index_or c.places (part_number p) None

-- the column of this number has the part
abbrev pub IsColumnOf : List (Option Part) → Part → ℕ → Type 0
IsColumnOf order p k = slice_get order k ≡ Some (Some p)

-- each part stands in the column that the list has it in, and nowhere else
abbrev pub AreColumnsOf : List (Option Part) → Columns → Type 0
AreColumnsOf order c = (p : Part) (k : ℕ) → (place_of c p ≡ Some k) ↔ IsColumnOf order p k

-- the list has the part twice
pub record StandsTwice (order : List (Option Part)) (p : Part) : Type 0 where
  pub first : ℕ
  pub second : ℕ
  pub before : first < second
  pub first_is : IsColumnOf order p first
  pub second_is : IsColumnOf order p second
