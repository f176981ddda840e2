-- What is told, field by field: the text of its line and its object are both of one list.
use Rattle.std.specs.Prelude.{ℕ, List, [], ◌∷◌, ◌++◌, ◌-◌, Bool, if◌then◌else◌, codes, decimal, flat_map, fold, length, map}
use Rattle.std.specs.List.{repeat}
use Rattle.serde_json.specs.Data.{Data, number, unsigned, string, array, object, Members, no_members, put}
use Rattle.serde_json.specs.View.{items_of}
use Rattle.serde_json.specs.Written.{compact_text}

-- a word that the line alone has, or a member of the object by its name, with what the line has of it
pub data Field : Type 0 where
  says : List ℕ → Field
  tells : List ℕ → List ℕ → Data → Field

abbrev pub field_text : Field → List ℕ
field_text (says word) = word
field_text (tells name text value) = text

-- the text of a line: what it has of each field, in their order
abbrev pub line_of : List Field → List ℕ
line_of fields = flat_map field_text fields

abbrev pub with_field : Members → Field → Members
with_field members (says word) = members
with_field members (tells name text value) = put name value members

abbrev pub with_fields : Members → List Field → Members
with_fields members fields = fold with_field members fields

-- the members of an object: the kind under `answer`, and each field that has a name
abbrev pub members_by : List ℕ → List Field → Members
members_by kind fields = with_fields (put (codes "answer") (string kind) no_members) fields

abbrev pub object_of : List ℕ → List Field → Data
object_of kind fields = object (members_by kind fields)

-- a number, in decimal digits in the line
abbrev pub counts : List ℕ → ℕ → Field
counts name n = tells name (decimal n) (number (unsigned n))

-- the digits of a number, with blanks before them where they are fewer than so many
abbrev pub aligned : ℕ → ℕ → List ℕ
aligned width n = repeat (width - length (decimal n)) (codes " ") ++ decimal n

abbrev pub counts_aligned : List ℕ → ℕ → ℕ → Field
counts_aligned name n width = tells name (aligned width n) (number (unsigned n))

-- a text
abbrev pub names : List ℕ → List ℕ → Field
names name text = tells name text (string text)

-- a number and a text of the object alone
abbrev pub hides_number : List ℕ → ℕ → Field
hides_number name n = tells name [] (number (unsigned n))

abbrev pub hides_name : List ℕ → List ℕ → Field
hides_name name text = tells name [] (string text)

-- what is told within, in fields of its own
abbrev pub within : List ℕ → List ℕ → List Field → Field
within name kind fields = tells name (line_of fields) (object_of kind fields)

-- several of one kind
abbrev pub each : List ℕ → List ℕ → List (List Field) → Field
each name kind rows = tells name (flat_map line_of rows) (array (items_of (map (object_of kind) rows)))

-- the line of these fields, or their object as a text without spaces; either with a newline behind it
abbrev pub fields_in : Bool → List ℕ → List Field → List ℕ
fields_in is_json kind fields = (if is_json then compact_text (object_of kind fields) else line_of fields) ++ 10 ∷ []
