-- Lines in a form of others that say a command, and those that say none.
use Rattle.std.proofs.Common.{◌≡◌, ◌≢◌, ◌∙◌, ℕ, ◌<◌, ◌≤◌, ◌^◌, ◌==◌, ◌||◌, Bool, true, false, if◌then◌else◌, List, length, map, Some, None, slice_index, refl, sym, ap, subst, inl, inr, arith}
use Rattle.std.proofs.lemmas.Option.{same_Some}
use Rattle.std.specs.Char.{to_ascii_lowercase}
use Rattle.ddr4_timing.specs.declared.command.Command.{Command}
use Rattle.ddr4_timing.specs.declared.command.Command.TheVariants as cmd
use Rattle.trace_forms.specs.Columns.{place_of}
use Rattle.trace_forms.specs.Forms.{word_of, words_in}
use Rattle.trace_forms.specs.declared.form.ForeignForm.{ForeignForm}
use Rattle.trace_forms.specs.declared.part.Part.TheVariants as part
use Rattle.command_trace.specs.Foreign.{AreSmall, LineSays, LineSaysNone, SaysCommand, SaysKind, SaysLocated, SaysNoBank, SaysNoCommand, SaysNoKind, SaysNoNumber, SaysNone}
use Rattle.command_trace.specs.Kinds.{IsSpelling, base_of, numbers_of}
use Rattle.command_trace.specs.declared.entry.Located.{Located}
use Rattle.command_trace.specs.declared.kind.CommandKind.{CommandKind}
use Rattle.command_trace.specs.declared.kind.CommandKind.TheVariants as kind

clash : (n m : ℕ) → n < m → m ≤ n → ⊥
clash n m below past = omega arith

-- a bank that no a number
pub no_rank_of_bank : (f : ForeignForm) (words : List (List ℕ)) → SaysNoNumber f words part.Rank → SaysNoBank f words
no_rank_of_bank f words lacks = record { none = λ at said rank group bank. clash at.rank (2 ^ 64) rank (lacks at.rank said.0) }

pub no_group_of_bank : (f : ForeignForm) (words : List (List ℕ)) → SaysNoNumber f words part.Group → SaysNoBank f words
no_group_of_bank f words lacks = record { none = λ at said rank group bank. clash at.group (2 ^ 64) group (lacks at.group said.1) }

pub no_number_of_bank : (f : ForeignForm) (words : List (List ℕ)) → SaysNoNumber f words part.Bank → SaysNoBank f words
no_number_of_bank f words lacks = record { none = λ at said rank group bank. clash at.bank (2 ^ 64) bank (lacks at.bank said.2) }

-- the parts of kinds
abbrev pub has_bank : CommandKind → Bool
has_bank kind.PreAll = false
has_bank kind.Ref = false
has_bank kind.Sre = false
has_bank k = true

abbrev pub has_column : CommandKind → Bool
has_column kind.Rd = true
has_column kind.Wr = true
has_column kind.Rda = true
has_column kind.Wra = true
has_column k = false

same_bank : (k : CommandKind) → has_bank (base_of k) ≡ has_bank k
same_bank kind.Act = refl
same_bank kind.Rd = refl
same_bank kind.Wr = refl
same_bank kind.Rda = refl
same_bank kind.Wra = refl
same_bank kind.Pre = refl
same_bank kind.PreAll = refl
same_bank kind.Ref = refl
same_bank kind.Sre = refl

same_column : (k : CommandKind) → has_column (base_of k) ≡ has_column k
same_column kind.Act = refl
same_column kind.Rd = refl
same_column kind.Wr = refl
same_column kind.Rda = refl
same_column kind.Wra = refl
same_column kind.Pre = refl
same_column kind.PreAll = refl
same_column kind.Ref = refl
same_column kind.Sre = refl

other_bank : (k base : CommandKind) (b : Bool) → base ≡ base_of k → has_bank k ≡ b → has_bank base ≡ b
other_bank k base b e is = ap has_bank e ∙ same_bank k ∙ is

other_column : (k base : CommandKind) (b : Bool) → base ≡ base_of k → has_column k ≡ b → has_column base ≡ b
other_column k base b e is = ap has_column e ∙ same_column k ∙ is

none_by_bank : (f : ForeignForm) (words : List (List ℕ)) (k : CommandKind) (x : Command) → has_bank k ≡ true → SaysNoBank f words → SaysCommand f words k x → AreSmall (numbers_of x) → ⊥
none_by_bank f words k (cmd.Act at row) has lacks said small = lacks.none at said.1.0 (small 0 0 (omega arith)) (small 1 0 (omega arith)) (small 2 0 (omega arith))
none_by_bank f words k (cmd.Rd at column) has lacks said small = lacks.none at said.1.0 (small 0 0 (omega arith)) (small 1 0 (omega arith)) (small 2 0 (omega arith))
none_by_bank f words k (cmd.Wr at column) has lacks said small = lacks.none at said.1.0 (small 0 0 (omega arith)) (small 1 0 (omega arith)) (small 2 0 (omega arith))
none_by_bank f words k (cmd.Pre at) has lacks said small = lacks.none at said.1 (small 0 0 (omega arith)) (small 1 0 (omega arith)) (small 2 0 (omega arith))
none_by_bank f words k (cmd.PreAll rank) has lacks said small = let both : false ≡ true = other_bank k kind.PreAll true said.0 has in cc
none_by_bank f words k (cmd.Ref rank) has lacks said small = let both : false ≡ true = other_bank k kind.Ref true said.0 has in cc
none_by_bank f words k (cmd.Sre rank) has lacks said small = let both : false ≡ true = other_bank k kind.Sre true said.0 has in cc

pub no_bank : (f : ForeignForm) (words : List (List ℕ)) (k : CommandKind) → has_bank k ≡ true → SaysNoBank f words → SaysNoCommand f words k
no_bank f words k has lacks = record { none = λ x said small. none_by_bank f words k x has lacks said small }

none_by_column : (f : ForeignForm) (words : List (List ℕ)) (k : CommandKind) (x : Command) → has_column k ≡ true → SaysNoNumber f words part.Column → SaysCommand f words k x → AreSmall (numbers_of x) → ⊥
none_by_column f words k (cmd.Act at row) has lacks said small = let both : false ≡ true = other_column k kind.Act true said.0 has in cc
none_by_column f words k (cmd.Rd at column) has lacks said small = clash column (2 ^ 64) (small 3 0 (omega arith)) (lacks column said.1.1)
none_by_column f words k (cmd.Wr at column) has lacks said small = clash column (2 ^ 64) (small 3 0 (omega arith)) (lacks column said.1.1)
none_by_column f words k (cmd.Pre at) has lacks said small = let both : false ≡ true = other_column k kind.Pre true said.0 has in cc
none_by_column f words k (cmd.PreAll rank) has lacks said small = let both : false ≡ true = other_column k kind.PreAll true said.0 has in cc
none_by_column f words k (cmd.Ref rank) has lacks said small = let both : false ≡ true = other_column k kind.Ref true said.0 has in cc
none_by_column f words k (cmd.Sre rank) has lacks said small = let both : false ≡ true = other_column k kind.Sre true said.0 has in cc

pub no_column : (f : ForeignForm) (words : List (List ℕ)) (k : CommandKind) → has_column k ≡ true → SaysNoNumber f words part.Column → SaysNoCommand f words k
no_column f words k has lacks = record { none = λ x said small. none_by_column f words k x has lacks said small }

none_by_rank : (f : ForeignForm) (words : List (List ℕ)) (k : CommandKind) (x : Command) → has_bank k ≡ false → SaysNoNumber f words part.Rank → SaysCommand f words k x → AreSmall (numbers_of x) → ⊥
none_by_rank f words k (cmd.Act at row) has lacks said small = let both : true ≡ false = other_bank k kind.Act false said.0 has in cc
none_by_rank f words k (cmd.Rd at column) has lacks said small = let both : true ≡ false = other_bank k kind.Rd false said.0 has in cc
none_by_rank f words k (cmd.Wr at column) has lacks said small = let both : true ≡ false = other_bank k kind.Wr false said.0 has in cc
none_by_rank f words k (cmd.Pre at) has lacks said small = let both : true ≡ false = other_bank k kind.Pre false said.0 has in cc
none_by_rank f words k (cmd.PreAll rank) has lacks said small = clash rank (2 ^ 64) (small 0 0 (omega arith)) (lacks rank said.1)
none_by_rank f words k (cmd.Ref rank) has lacks said small = clash rank (2 ^ 64) (small 0 0 (omega arith)) (lacks rank said.1)
none_by_rank f words k (cmd.Sre rank) has lacks said small = clash rank (2 ^ 64) (small 0 0 (omega arith)) (lacks rank said.1)

pub no_rank : (f : ForeignForm) (words : List (List ℕ)) (k : CommandKind) → has_bank k ≡ false → SaysNoNumber f words part.Rank → SaysNoCommand f words k
no_rank f words k has lacks = record { none = λ x said small. none_by_rank f words k x has lacks said small }

none_by_row : (f : ForeignForm) (words : List (List ℕ)) (x : Command) → SaysNoNumber f words part.Row → SaysCommand f words kind.Act x → AreSmall (numbers_of x) → ⊥
none_by_row f words (cmd.Act at row) lacks said small = clash row (2 ^ 64) (small 3 0 (omega arith)) (lacks row said.1.1)
none_by_row f words (cmd.Rd at column) lacks said small = let both = said.0 in cc
none_by_row f words (cmd.Wr at column) lacks said small = let both = said.0 in cc
none_by_row f words (cmd.Pre at) lacks said small = let both = said.0 in cc
none_by_row f words (cmd.PreAll rank) lacks said small = let both = said.0 in cc
none_by_row f words (cmd.Ref rank) lacks said small = let both = said.0 in cc
none_by_row f words (cmd.Sre rank) lacks said small = let both = said.0 in cc

pub no_row : (f : ForeignForm) (words : List (List ℕ)) (k : CommandKind) → k ≡ kind.Act → SaysNoNumber f words part.Row → SaysNoCommand f words k
no_row f words k is lacks = subst (λ (it : CommandKind). SaysNoCommand f words it) (sym is) (record { none = λ x said small. none_by_row f words x lacks said small })

-- the kind that a word in small letters spells, if it spells one
abbrev spelled : List ℕ → CommandKind
spelled l =
    if slice_index l 0 == 97 then kind.Act else if slice_index l 0 == 115 then kind.Sre else
    if slice_index l 0 == 112 then (if (length l == 4) || (length l == 5) then kind.PreAll else kind.Pre) else
    if slice_index l 0 == 119 then (if (length l == 2) || (length l == 5) then kind.Wr else kind.Wra) else
    if slice_index l 2 == 102 then kind.Ref else if (length l == 2) || (length l == 4) then kind.Rd else kind.Rda

abbrev small_letters : List ℕ → List ℕ
small_letters name = map to_ascii_lowercase name

by_spelling : (k : CommandKind) (name : List ℕ) → IsSpelling k name → spelled (small_letters name) ≡ k
by_spelling kind.Act name (inl is) = ap spelled (sym is)
by_spelling kind.Act name (inr is) = ap spelled (sym is)
by_spelling kind.Rd name (inl is) = ap spelled (sym is)
by_spelling kind.Rd name (inr is) = ap spelled (sym is)
by_spelling kind.Wr name (inl is) = ap spelled (sym is)
by_spelling kind.Wr name (inr is) = ap spelled (sym is)
by_spelling kind.Rda name (inl is) = ap spelled (sym is)
by_spelling kind.Rda name (inr (inl is)) = ap spelled (sym is)
by_spelling kind.Rda name (inr (inr is)) = ap spelled (sym is)
by_spelling kind.Wra name (inl is) = ap spelled (sym is)
by_spelling kind.Wra name (inr (inl is)) = ap spelled (sym is)
by_spelling kind.Wra name (inr (inr is)) = ap spelled (sym is)
by_spelling kind.Pre name (inl is) = ap spelled (sym is)
by_spelling kind.Pre name (inr is) = ap spelled (sym is)
by_spelling kind.PreAll name (inl is) = ap spelled (sym is)
by_spelling kind.PreAll name (inr is) = ap spelled (sym is)
by_spelling kind.Ref name (inl is) = ap spelled (sym is)
by_spelling kind.Ref name (inr (inl is)) = ap spelled (sym is)
by_spelling kind.Ref name (inr (inr is)) = ap spelled (sym is)
by_spelling kind.Sre name (inl is) = ap spelled (sym is)
by_spelling kind.Sre name (inr (inl is)) = ap spelled (sym is)
by_spelling kind.Sre name (inr (inr is)) = ap spelled (sym is)

-- words say one kind
one_kind : (f : ForeignForm) (words : List (List ℕ)) (a b : CommandKind) → SaysKind f words a → SaysKind f words b → a ≡ b
one_kind f words a b first second =
    let same : first.0 ≡ second.0 = same_Some first.0 second.0 (sym first.1 ∙ second.1) in
    sym (by_spelling a first.0 first.2) ∙ ap (λ (name : List ℕ). spelled (small_letters name)) same ∙ by_spelling b second.0 second.2

-- words without a name, and with one that is no command's
pub no_name : (f : ForeignForm) (words : List (List ℕ)) → word_of f words part.Command ≡ None → SaysNoKind f words
no_name f words none = record { none = λ k said. let both : None ≡ Some said.0 = sym none ∙ said.1 in cc }

pub no_spelling : (f : ForeignForm) (words : List (List ℕ)) (name : List ℕ) → word_of f words part.Command ≡ Some name → ((k : CommandKind) → IsSpelling k name → ⊥) → SaysNoKind f words
no_spelling f words name is none = record {
  none = λ k said.
      let same : said.0 ≡ name = same_Some said.0 name (sym said.1 ∙ is) in
      none k (subst (λ (it : List ℕ). IsSpelling k it) same said.2);
}

-- what a command of a trace can lack
pub no_kind : (f : ForeignForm) (words : List (List ℕ)) → SaysNoKind f words → SaysNone f words
no_kind f words lacks = record { none = λ number x said small. lacks.none said.kind said.named }

pub no_clock : (f : ForeignForm) (words : List (List ℕ)) → SaysNoNumber f words part.Clock → SaysNone f words
no_clock f words lacks = record { none = λ number x said small. clash x.entry.command.clock (2 ^ 64) small.clock (lacks x.entry.command.clock said.clock) }

pub no_channel : (f : ForeignForm) (words : List (List ℕ)) → place_of f.columns part.Channel ≢ None → SaysNoNumber f words part.Channel → SaysNone f words
no_channel f words there lacks = record { none = λ number x said small. clash x.entry.channel (2 ^ 64) small.channel (lacks x.entry.channel (said.channel.said there)) }

pub no_command : (f : ForeignForm) (words : List (List ℕ)) (k : CommandKind) → SaysKind f words k → SaysNoCommand f words k → SaysNone f words
no_command f words k named lacks = record {
  none = λ number x said small.
      let same : said.kind ≡ k = one_kind f words said.kind k said.named named in
      lacks.none x.entry.command.cmd (subst (λ (it : CommandKind). SaysCommand f words it x.entry.command.cmd) same said.command) small.numbers;
}

-- and a line
pub no_words : (f : ForeignForm) (text : List ℕ) (line : ℕ) → words_in f text ≡ None → LineSaysNone f text line
no_words f text line none x small said = let both : None ≡ Some said.0 = sym none ∙ said.1 in cc

pub no_line : (f : ForeignForm) (text : List ℕ) (line : ℕ) (words : List (List ℕ)) → words_in f text ≡ Some words → SaysNone f words → LineSaysNone f text line
no_line f text line words is lacks x small said =
    let same : said.0 ≡ words = same_Some said.0 words (sym said.1 ∙ is) in
    lacks.none line x (subst (λ (it : List (List ℕ)). SaysLocated f it line x) same said.2) small

-- one that says a command
pub says_line : (f : ForeignForm) (text : List ℕ) (line : ℕ) (words : List (List ℕ)) (x : Located) → words_in f text ≡ Some words → SaysLocated f words line x → LineSays f text line x
says_line f text line words x is said = (words, is, said)
