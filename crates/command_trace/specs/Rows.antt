-- What a row of a trace says.
use Rattle.std.specs.Prelude.{◌≡◌, ◌⊎◌, ℕ, ◌+◌, ◌-◌, ◌≤◌, ◌^◌, ◌==◌, Bool, true, false, if◌then◌else◌, All, List, [], ◌∷◌, codes, length, map, take, Option, Some, None, slice_get, slice_index}
use Rattle.std.specs.Str.Parse.{IsNumeral, digits_value}
use Rattle.ddr4_timing.specs.declared.command.Command.{Command}
use Rattle.ddr4_timing.specs.declared.command.Command.TheVariants.{Act, Rd, Wr, Pre, PreAll, Ref, Sre}
use Rattle.ddr4_timing.specs.declared.place.BankAddress.{BankAddress}
use Rattle.trace_forms.specs.declared.form.ForeignForm.{ForeignForm}
use Rattle.command_trace.specs.Foreign.{LineSays}
use Rattle.command_trace.specs.Kinds.{IsSpelling, base_of, closes_of, kind_of, name_of_kind}
use Rattle.command_trace.specs.declared.entry.Located.{Located}
use Rattle.command_trace.specs.declared.kind.CommandKind.{CommandKind}
use Rattle.command_trace.specs.declared.kind.CommandKind.TheVariants as kinds
use Rattle.command_trace.specs.declared.reading.Form.{Form}
use Rattle.command_trace.specs.declared.reading.Form.TheVariants.{Lines, Table, Foreign}

-- a field without a carriage return at its end
abbrev pub bare : List ℕ → List ℕ
bare field = if slice_index field (length field - 1) == 13 then take (length field - 1) field else field

-- the words of a row are its fields, so
abbrev pub words_of_row : List (List ℕ) → List (List ℕ)
words_of_row fields = map bare fields

-- a word writes the number: decimal digits, and nothing else
pub record IsDecimal (word : List ℕ) (n : ℕ) : Type 0 where
  pub numeral : IsNumeral 10 word
  pub value : n ≡ digits_value 10 word

-- the word in a place writes the number
pub record WritesAt (words : List (List ℕ)) (place n : ℕ) : Type 0 where
  pub word : List ℕ
  pub stands : slice_get words place ≡ Some word
  pub writes : IsDecimal word n

-- no number of 64 bits is written there
abbrev pub WritesNone : List (List ℕ) → ℕ → Type 0
WritesNone words place = (n : ℕ) → WritesAt words place n → 2 ^ 64 ≤ n

-- the rank, the group and the number of a bank
pub record WritesBank (words : List (List ℕ)) (at : BankAddress) : Type 0 where
  pub rank : WritesAt words 3 at.rank
  pub group : WritesAt words 4 at.group
  pub bank : WritesAt words 5 at.bank

-- the numbers of a command, of which a column stands in this place
abbrev pub WritesNumbers : ℕ → List (List ℕ) → Command → Type 0
WritesNumbers place words (Act at row) = WritesBank words at × WritesAt words 6 row
WritesNumbers place words (Rd at column) = WritesBank words at × WritesAt words place column
WritesNumbers place words (Wr at column) = WritesBank words at × WritesAt words place column
WritesNumbers place words (Pre at) = WritesBank words at
WritesNumbers place words (PreAll rank) = WritesAt words 3 rank
WritesNumbers place words (Ref rank) = WritesAt words 3 rank
WritesNumbers place words (Sre rank) = WritesAt words 3 rank

-- a command of a kind
abbrev pub WritesCommand : ℕ → List (List ℕ) → CommandKind → Command → Type 0
WritesCommand place words kind x = (kind_of x ≡ base_of kind) × WritesNumbers place words x

-- how many numbers stand behind the name of a kind
abbrev pub count_of : CommandKind → ℕ
count_of kinds.Act = 4
count_of kinds.Rd = 4
count_of kinds.Wr = 4
count_of kinds.Rda = 4
count_of kinds.Wra = 4
count_of kinds.Pre = 3
count_of kinds.PreAll = 1
count_of kinds.Ref = 1
count_of kinds.Sre = 1

-- a line as this program prints it: the channel, the clock, the name, and behind it the command's numbers and nothing else
pub record IsLineOf (words : List (List ℕ)) (found : Located) : Type 0 where
  pub kind : CommandKind
  pub channel : WritesAt words 0 found.entry.channel
  pub clock : WritesAt words 1 found.entry.command.clock
  pub name : slice_get words 2 ≡ Some (name_of_kind kind)
  pub command : WritesCommand 6 words kind found.entry.command.cmd
  pub closes : found.closes ≡ closes_of kind
  pub count : length words ≡ 3 + count_of kind

-- the columns of a table in which a kind has no number
abbrev pub columns_left : CommandKind → List ℕ
columns_left kinds.Act = 7 ∷ []
columns_left kinds.Rd = 6 ∷ []
columns_left kinds.Wr = 6 ∷ []
columns_left kinds.Rda = 6 ∷ []
columns_left kinds.Wra = 6 ∷ []
columns_left kinds.Pre = 6 ∷ 7 ∷ []
columns_left kinds.PreAll = 4 ∷ 5 ∷ 6 ∷ 7 ∷ []
columns_left kinds.Ref = 4 ∷ 5 ∷ 6 ∷ 7 ∷ []
columns_left kinds.Sre = 4 ∷ 5 ∷ 6 ∷ 7 ∷ []

-- a row of a table, which has eight columns: the clock, the name in one of its spellings, the channel and the command's numbers;
-- the columns that are left are empty
pub record IsRowOf (words : List (List ℕ)) (found : Located) : Type 0 where
  pub kind : CommandKind
  pub clock : WritesAt words 0 found.entry.command.clock
  pub name : (name : List ℕ) × (slice_get words 1 ≡ Some name) × IsSpelling kind name
  pub channel : WritesAt words 2 found.entry.channel
  pub command : WritesCommand 7 words kind found.entry.command.cmd
  pub closes : found.closes ≡ closes_of kind
  pub count : length words ≡ 8
  pub left : All (λ column. slice_get words column ≡ Some []) (columns_left kind)

-- a line in a form of others is one field
pub record IsLineInForm (form : ForeignForm) (words : List (List ℕ)) (found : Located) : Type 0 where
  pub text : List ℕ
  pub stands : slice_get words 0 ≡ Some text
  pub alone : length words ≡ 1
  pub says : LineSays form text found.line found

-- the first row of a table
abbrev pub header : List (List ℕ)
header =
    codes "clock" ∷ codes "command" ∷ codes "channel" ∷ codes "rank" ∷ codes "bankgroup" ∷ codes "bank" ∷ codes "row" ∷ codes "column" ∷ []

-- another answer of a run than a command: those of a channel alone begin with a number
abbrev pub IsOther : List (List ℕ) → Type 0
IsOther words = WritesNone words 0 ⊎ ((length words ≡ 2) × (slice_get words 1 ≡ Some (codes "idle")))

-- nothing but a carriage return at most
abbrev pub IsBlank : List (List ℕ) → Type 0
IsBlank words = words ≡ [] ∷ []

-- a row is passed over: a blank one, and of lines with others among them another answer
abbrev pub IsPassedOver : Form → List (List ℕ) → Type 0
IsPassedOver form words = IsBlank words ⊎ ((form ≡ Lines true) × IsOther words)

-- a row says a command in a form; a table says its own behind the header
abbrev pub Says : Form → Bool → List (List ℕ) → Located → Type 0
Says (Lines others) has_header words found = IsLineOf words found
Says Table has_header words found = (has_header ≡ true) × IsRowOf words found
Says (Foreign form) has_header words found = IsLineInForm form words found

-- What a row says to a reader of a form that has seen the header of a table or not, now and behind it: a command, or none where it
-- is passed over or that header.
abbrev pub RowSays : Form → Bool → List (List ℕ) → Option Located → Bool → Type 0
RowSays form old words (Some found) new = Says form old words found × (new ≡ old)
RowSays form old words None new =
    (IsPassedOver form words × (new ≡ old)) ⊎ ((form ≡ Table) × (words ≡ header) × (old ≡ false) × (new ≡ true))
