-- The forms.
use Rattle.std.specs.Prelude.{◌≡◌, ◌⊎◌, ⊤, ℕ, Bool, true, false, ◌==◌, if◌then◌else◌, List, [], ◌∷◌, codes, length, map, Option, Some, None, slice_get}
use Rattle.std.specs.List.{Contains}
use Rattle.std.specs.Option.{option_and_then, option_map}
use Rattle.trace_forms.specs.Columns.{AreColumnsOf, StandsTwice, name_of_part, place_of}
use Rattle.trace_forms.specs.Words.{IsNumber, has_comma, trimmed, words_of}
use Rattle.trace_forms.specs.declared.form.ForeignForm.{ForeignForm}
use Rattle.trace_forms.specs.declared.form.Separator.{Separator}
use Rattle.trace_forms.specs.declared.form.Separator.TheVariants.{Commas, Spaces, Either}
use Rattle.trace_forms.specs.declared.naming.FormFault.{FormFault}
use Rattle.trace_forms.specs.declared.naming.FormFault.TheVariants.{Name, Twice, Memory}
use Rattle.trace_forms.specs.declared.part.Part.{Part}
use Rattle.trace_forms.specs.declared.part.Part.TheVariants as part

-- whether the words of a line stand between commas, or between spaces; none where the line isn't one of the form
abbrev pub commas_in : Separator → List ℕ → Option Bool
commas_in Commas line = if has_comma line then Some true else None
commas_in Spaces line = if has_comma line then None else Some false
commas_in Either line = Some (has_comma line)

abbrev pub counted : ℕ → List (List ℕ) → Option (List (List ℕ))
counted n words = if length words == n then Some words else None

-- the words of a line of the form: so many, and between commas or spaces as the form has it
abbrev pub words_in : ForeignForm → List ℕ → Option (List (List ℕ))
words_in f line = option_and_then (λ has_commas. counted f.count (words_of has_commas line)) (commas_in f.separator line)

-- the word of a part, among those of a line
abbrev pub word_of : ForeignForm → List (List ℕ) → Part → Option (List ℕ)
word_of f words p = option_map trimmed (option_and_then (λ place. slice_get words place) (place_of f.columns p))

-- rows and columns alone are in base 16
abbrev pub is_hex_part : ForeignForm → Part → Bool
is_hex_part f part.Row = f.is_hex
is_hex_part f part.Column = f.is_hex
is_hex_part f p = false

-- the word of a part writes the number
abbrev pub IsNumberOf : ForeignForm → List (List ℕ) → Part → ℕ → Type 0
IsNumberOf f words p n = (word : List ℕ) × (word_of f words p ≡ Some word) × IsNumber (is_hex_part f p) word n

-- the columns of clock, command, channel, rank, group, bank, row and column, in this order
abbrev pub in_order : List (Option ℕ)
in_order = Some 0 ∷ Some 1 ∷ Some 2 ∷ Some 3 ∷ Some 4 ∷ Some 5 ∷ Some 6 ∷ Some 7 ∷ []

-- the same of a form whose lines are all of one channel: the third word isn't read
abbrev pub of_one_channel : List (Option ℕ)
of_one_channel = Some 0 ∷ Some 1 ∷ None ∷ Some 3 ∷ Some 4 ∷ Some 5 ∷ Some 6 ∷ Some 7 ∷ []

-- a form of eight words
pub record IsFormWith (places : List (Option ℕ)) (separator : Separator) (is_hex : Bool) (f : ForeignForm) : Type 0 where
  pub columns : f.columns.places ≡ places
  pub count : f.count ≡ 8
  pub between : f.separator ≡ separator
  pub base : f.is_hex ≡ is_hex

-- the form of a name
abbrev pub IsFormOf : List ℕ → ForeignForm → Type 0
IsFormOf name f =
    ((name ≡ codes "ramulator2") × IsFormWith in_order Commas false f)
    ⊎ ((name ≡ codes "dramsim3") × IsFormWith of_one_channel Spaces true f)
    ⊎ ((name ≡ codes "plain") × IsFormWith in_order Spaces false f)

-- the name of a column, - for one that is passed over
abbrev pub slot_name : Option Part → List ℕ
slot_name None = codes "-"
slot_name (Some p) = name_of_part p

-- the names, with a comma between two, name these columns in turn
abbrev pub NamesColumns : List ℕ → List (Option Part) → Type 0
NamesColumns names order = map slot_name order ≡ words_of true names

-- a list of names gives the form
pub record IsFormOfColumns (names : List ℕ) (f : ForeignForm) : Type 0 where
  pub order : List (Option Part)
  pub named : NamesColumns names order
  pub columns : AreColumnsOf order f.columns
  pub count : f.count ≡ length order
  pub between : f.separator ≡ Either
  pub base : f.is_hex ≡ false

-- a word names no column
abbrev pub IsNoSlot : List ℕ → Type 0
IsNoSlot word = (slot : Option Part) → ¬ (slot_name slot ≡ word)

-- why words name no columns
abbrev pub IsNoOrder : List (List ℕ) → FormFault → Type 0
IsNoOrder words Name = (word : List ℕ) × Contains words word × IsNoSlot word
IsNoOrder words (Twice p) = ⊥
IsNoOrder words Memory = ⊤

-- why a list of names gives no form
abbrev pub IsNoForm : List ℕ → FormFault → Type 0
IsNoForm names Name = (word : List ℕ) × Contains (words_of true names) word × IsNoSlot word
IsNoForm names (Twice p) = (order : List (Option Part)) × NamesColumns names order × StandsTwice order p
IsNoForm names Memory = ⊤
