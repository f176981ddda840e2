-- The fields that the parts of a program are.
use Rattle.std.specs.Prelude.{◌≡◌, ℕ, List, [], ◌∷◌, ◌++◌, Bool, flat_map, if◌then◌else◌, map}
use Rattle.std.specs.String.{string_bytes}
use Rattle.serde_json.specs.Data.{Data, array}
use Rattle.serde_json.specs.View.{items_of, view}
use Rattle.serde_json.specs.Written.{compact_text}
use Rattle.report_fields.specs.declared.part.Part.{Part}
use Rattle.report_fields.specs.declared.part.Part.TheVariants.{Word, Number, Aligned, Name, HiddenNumber, HiddenName, Within, Each}
use Rattle.report_fields.specs.declared.told.Told.{Told}
use Rattle.report_fields.specs.Fields.{Field, says, tells, counts, counts_aligned, names, hides_number, hides_name, line_of, object_of}

abbrev pub text_of_told : Told → List ℕ
text_of_told told = string_bytes told.line

abbrev pub data_of_told : Told → Data
data_of_told told = view told.object

abbrev pub field_of : Part → Field
field_of (Word word) = says word.now
field_of (Number name value) = counts name.now value
field_of (Aligned name value width) = counts_aligned name.now value width
field_of (Name name value) = names name.now value.now
field_of (HiddenNumber name value) = hides_number name.now value
field_of (HiddenName name value) = hides_name name.now value.now
field_of (Within name told) = tells name.now (text_of_told told.now) (data_of_told told.now)
field_of (Each name list) = tells name.now (flat_map text_of_told list.now) (array (items_of (map data_of_told list.now)))

-- what is written of it: its line, or its object as a text without spaces, and a newline
abbrev pub told_in : Bool → Told → List ℕ
told_in is_json told = (if is_json then compact_text (data_of_told told) else text_of_told told) ++ 10 ∷ []

-- it is told to be of this kind, in these fields: its line and its object are both of them
abbrev pub IsTold : List ℕ → List Field → Told → Type 0
IsTold kind fields told = (text_of_told told ≡ line_of fields) × (data_of_told told ≡ object_of kind fields)

-- so it is of each of a list, all of one kind
abbrev pub AreTold : List ℕ → List (List Field) → List Told → Type 0
AreTold kind rows list = (flat_map text_of_told list ≡ flat_map line_of rows) × (map data_of_told list ≡ map (object_of kind) rows)
