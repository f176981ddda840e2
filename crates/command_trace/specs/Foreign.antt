-- What a line says in a form of others.
use Rattle.std.specs.Prelude.{◌≡◌, ◌≢◌, ℕ, ◌≤◌, ◌<◌, ◌^◌, All, List, None, Some}
use Rattle.ddr4_timing.specs.declared.command.Command.{Command}
use Rattle.ddr4_timing.specs.declared.command.Command.TheVariants.{Act, Rd, Wr, Pre, PreAll, Ref, Sre}
use Rattle.ddr4_timing.specs.declared.place.BankAddress.{BankAddress}
use Rattle.trace_forms.specs.Columns.{place_of}
use Rattle.trace_forms.specs.Forms.{IsNumberOf, word_of, words_in}
use Rattle.trace_forms.specs.declared.form.ForeignForm.{ForeignForm}
use Rattle.trace_forms.specs.declared.part.Part.{Part}
use Rattle.trace_forms.specs.declared.part.Part.TheVariants as part
use Rattle.command_trace.specs.Kinds.{IsSpelling, base_of, closes_of, kind_of, numbers_of}
use Rattle.command_trace.specs.declared.entry.Located.{Located}
use Rattle.command_trace.specs.declared.kind.CommandKind.{CommandKind}

abbrev pub SaysBank : ForeignForm → List (List ℕ) → BankAddress → Type 0
SaysBank f words at = IsNumberOf f words part.Rank at.rank × IsNumberOf f words part.Group at.group × IsNumberOf f words part.Bank at.bank

-- the numbers of a command; a part that it has no use for may say anything
abbrev pub SaysNumbers : ForeignForm → List (List ℕ) → Command → Type 0
SaysNumbers f words (Act at row) = SaysBank f words at × IsNumberOf f words part.Row row
SaysNumbers f words (Rd at column) = SaysBank f words at × IsNumberOf f words part.Column column
SaysNumbers f words (Wr at column) = SaysBank f words at × IsNumberOf f words part.Column column
SaysNumbers f words (Pre at) = SaysBank f words at
SaysNumbers f words (PreAll rank) = IsNumberOf f words part.Rank rank
SaysNumbers f words (Ref rank) = IsNumberOf f words part.Rank rank
SaysNumbers f words (Sre rank) = IsNumberOf f words part.Rank rank

-- a command of a kind
abbrev pub SaysCommand : ForeignForm → List (List ℕ) → CommandKind → Command → Type 0
SaysCommand f words kind x = (kind_of x ≡ base_of kind) × SaysNumbers f words x

-- the name is in one of the spellings of the kind
abbrev pub SaysKind : ForeignForm → List (List ℕ) → CommandKind → Type 0
SaysKind f words kind = (name : List ℕ) × (word_of f words part.Command ≡ Some name) × IsSpelling kind name

-- the channel, 0 where no column says it
pub record SaysChannel (f : ForeignForm) (words : List (List ℕ)) (channel : ℕ) : Type 0 where
  pub said : place_of f.columns part.Channel ≢ None → IsNumberOf f words part.Channel channel
  pub none : place_of f.columns part.Channel ≡ None → channel ≡ 0

-- the words of a line of this number say a command of a trace
pub record SaysLocated (f : ForeignForm) (words : List (List ℕ)) (number : ℕ) (found : Located) : Type 0 where
  pub kind : CommandKind
  pub named : SaysKind f words kind
  pub closes : found.closes ≡ closes_of kind
  pub command : SaysCommand f words kind found.entry.command.cmd
  pub clock : IsNumberOf f words part.Clock found.entry.command.clock
  pub channel : SaysChannel f words found.entry.channel
  pub line : found.line ≡ number

-- and so does the line
abbrev pub LineSays : ForeignForm → List ℕ → ℕ → Located → Type 0
LineSays f text line found = (words : List (List ℕ)) × (words_in f text ≡ Some words) × SaysLocated f words line found

-- numbers of 64 bits, as every command of the program has
abbrev pub AreSmall : List ℕ → Type 0
AreSmall numbers = All (λ n. n < 2 ^ 64) numbers

pub record IsSmall (x : Located) : Type 0 where
  pub channel : x.entry.channel < 2 ^ 64
  pub clock : x.entry.command.clock < 2 ^ 64
  pub numbers : AreSmall (numbers_of x.entry.command.cmd)

-- no number of 64 bits is said of a part
abbrev pub SaysNoNumber : ForeignForm → List (List ℕ) → Part → Type 0
SaysNoNumber f words p = (n : ℕ) → IsNumberOf f words p n → 2 ^ 64 ≤ n

-- no bank of such numbers is said
pub record SaysNoBank (f : ForeignForm) (words : List (List ℕ)) : Type 0 where
  pub none : (at : BankAddress) → SaysBank f words at → at.rank < 2 ^ 64 → at.group < 2 ^ 64 → at.bank < 2 ^ 64 → ⊥

-- no command of a kind
pub record SaysNoCommand (f : ForeignForm) (words : List (List ℕ)) (kind : CommandKind) : Type 0 where
  pub none : (x : Command) → SaysCommand f words kind x → AreSmall (numbers_of x) → ⊥

-- no kind
pub record SaysNoKind (f : ForeignForm) (words : List (List ℕ)) : Type 0 where
  pub none : (kind : CommandKind) → SaysKind f words kind → ⊥

-- and no command of a trace
pub record SaysNone (f : ForeignForm) (words : List (List ℕ)) : Type 0 where
  pub none : (number : ℕ) (x : Located) → SaysLocated f words number x → IsSmall x → ⊥

-- nor does a line
abbrev pub LineSaysNone : ForeignForm → List ℕ → ℕ → Type 0
LineSaysNone f text line = (x : Located) → IsSmall x → ¬ (LineSays f text line x)
