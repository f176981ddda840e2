-- The lines of a text, and which of them are bad.
use Rattle.std.proofs.Common.{◌≡◌, ◌≢◌, ◌∙◌, ◌==◌, ◌⊎◌, inl, inr, Bool, true, false, ℕ, ◌+◌, ◌-◌, ◌<◌, ◌≤◌, List, [], ◌∷◌, ◌++◌, length, take, get_or, slice_index, All, AllPairs, Contains, if◌then◌else◌, Option, refl, sym, ap, subst, arith}
use Rattle.std.specs.Borrow.{Bor}
use Rattle.std.specs.List.{AllZip, onto_first, slice_split}
use Rattle.std.proofs.Math.Nat.{eq-or-lt_of_le}
use Rattle.std.proofs.lemmas.List.{length-map, map-append}
use Rattle.std.proofs.lemmas.List.Elements.{All-append, All-cons, All-get_or, All-nil, All-tail, Contains-append_left, Contains-push}
use Rattle.std.proofs.lemmas.List.Quantifiers.{all_pairs_push}
use Rattle.std.proofs.lemmas.List.Splits.{slice_split_none, slice_split-cons_no, slice_split-cons_yes}
use Rattle.ddr4_timing.specs.declared.timing.Geometry.{Geometry}
use Rattle.nv_profile.specs.Nothing.{HoldsOfNone}
use Rattle.nv_script.specs.declared.line.ScriptLine.{ScriptLine}
use Rattle.nv_script.specs.declared.reading.ScriptFault.{ScriptFault}
use Rattle.nv_script.specs.declared.reading.ScriptFault.TheVariants as fault
use Rattle.nv_script.specs.Words.{texts_of}
use Rattle.nv_script.specs.Texts.{AreLinesOf, IsFirstBadLine, IsRefusedBy, ReadsAs, text_lines, without_last_newline}
use Rattle.script_report.specs.declared.lint.BadLine.{BadLine}
use Rattle.script_report.specs.BadLines.{AreBadLines, IsBadLine, numbers_of}

-- a line has no newline
abbrev pub HasNoNewline : List ℕ → Type 0
HasNoNewline line = All (λ byte. (byte == 10) ≡ false) line

no_byte : HasNoNewline []
no_byte = All-nil (λ byte. (byte == 10) ≡ false)

put_first : (byte : ℕ) (parts : List (List ℕ)) → (byte == 10) ≡ false → All HasNoNewline parts → All HasNoNewline (onto_first byte parts)
put_first byte [] other all = All-cons HasNoNewline (byte ∷ []) [] (All-cons (λ b. (b == 10) ≡ false) byte [] other no_byte) (All-nil HasNoNewline)
put_first byte (part ∷ parts) other all =
    All-cons HasNoNewline (byte ∷ part) parts (All-cons (λ b. (b == 10) ≡ false) byte part other (all 0 part (omega arith))) (All-tail HasNoNewline part parts all)

part_more : (byte : ℕ) (text : List ℕ) (is : Bool) → (byte == 10) ≡ is → All HasNoNewline (slice_split (λ b. b == 10) text) → All HasNoNewline (slice_split (λ b. b == 10) (byte ∷ text))
part_more byte text true is_one all =
    subst (All HasNoNewline) (sym (slice_split-cons_yes (λ b. b == 10) byte text is_one)) (All-cons HasNoNewline [] (slice_split (λ b. b == 10) text) no_byte all)
part_more byte text false isnt all = subst (All HasNoNewline) (sym (slice_split-cons_no (λ b. b == 10) byte text isnt)) (put_first byte (slice_split (λ b. b == 10) text) isnt all)

-- the parts of a text that is cut at its newlines have none
parts_without : (text : List ℕ) → All HasNoNewline (slice_split (λ b. b == 10) text)
parts_without [] = All-cons HasNoNewline [] [] no_byte (All-nil HasNoNewline)
parts_without (byte ∷ text) = part_more byte text (byte == 10) refl (parts_without text)

pub lines_without : (text : List ℕ) (place : ℕ) → place < length (text_lines text) → HasNoNewline (get_or (text_lines text) place [])
lines_without text place below = All-get_or HasNoNewline (text_lines text) place [] below (parts_without (without_last_newline text))

-- a line that stands alone is the one line of its text
last_byte : (line : List ℕ) → HasNoNewline line → (slice_index line (length line - 1) == 10) ≡ false
last_byte [] none = refl
last_byte (byte ∷ line) none = none (length (byte ∷ line) - 1) 0 (omega arith)

pub alone : (line : List ℕ) → HasNoNewline line → text_lines line ≡ line ∷ []
alone line none =
    ap (λ (ends : Bool). slice_split (λ byte. byte == 10) (if ends then take (length line - 1) line else line)) (last_byte line none)
    ∙ slice_split_none (λ byte. byte == 10) line none

zip_one : (R : List ℕ → Option ScriptLine → Type 0) (line : List ℕ) (read : List (Option ScriptLine)) → AllZip R (line ∷ []) read → (value : Option ScriptLine) × R line value
zip_one R line [] all = absurd all
zip_one R line (value ∷ more) all = (value, all.0)

pub reads : (geometry : Geometry) (line : List ℕ) (lines : List ScriptLine) → HasNoNewline line → AreLinesOf geometry (text_lines line) lines → (value : Option ScriptLine) × ReadsAs geometry line value
reads geometry line lines none are = zip_one (ReadsAs geometry) line are.read (subst (λ (some : List (List ℕ)). AllZip (ReadsAs geometry) some are.read) (alone line none) are.each)

pub reads_none : (geometry : Geometry) (line : List ℕ) (number : ℕ) → HasNoNewline line → IsFirstBadLine geometry line number → HoldsOfNone (ReadsAs geometry line)
reads_none geometry line number none bad =
    let one : length (text_lines line) ≡ 1 = ap length (alone line none) in
    let zero : bad.place ≡ 0 = omega (arith, bad.within, one) in
    elim bad.bad [
      | inl far ↦ absurd (omega (arith, far, zero))
      | inr holds ↦ subst (λ (some : List (List ℕ)). HoldsOfNone (ReadsAs geometry (get_or some 0 []))) (alone line none)
          (subst (λ (k : ℕ). HoldsOfNone (ReadsAs geometry (get_or (text_lines line) k []))) zero holds)
    ]

pub refused_none : (geometry : Geometry) (line : List ℕ) (why : ScriptFault) → HasNoNewline line → IsRefusedBy geometry line why → why ≢ fault.Memory → HoldsOfNone (ReadsAs geometry line)
refused_none geometry line (fault.Line number) none bad other = reads_none geometry line number none bad
refused_none geometry line fault.Memory none bad other = absurd (other refl)
refused_none geometry line fault.Writer none bad other = absurd bad

-- a line that is there
pub is_there : (lines : List (Bor (List ℕ))) (texts : List (List ℕ)) (place : ℕ) → texts_of lines ≡ texts → place < length lines → place < length texts
is_there lines texts place is below = let same : length lines ≡ length texts = sym (length-map lines (λ (word : Bor (List ℕ)). word.now)) ∙ ap length is in omega (arith, below, same)

-- one more line is told
pub one_told : (old new : List BadLine) (line : BadLine) (number : ℕ) → new ≡ old ++ line ∷ [] → line.number ≡ number → numbers_of new ≡ numbers_of old ++ number ∷ []
one_told old new line number is same =
    ap numbers_of is ∙ map-append (λ (bad : BadLine). bad.number) old (line ∷ []) ∙ ap (λ (k : ℕ). numbers_of old ++ k ∷ []) same

-- The bad lines among the first of a text are told, and no other number, in their order.
pub record TellsFirst (geometry : Geometry) (texts : List (List ℕ)) (n : ℕ) (numbers : List ℕ) : Type 0 where
  pub are : All (IsBadLine geometry texts) numbers
  pub each : (number : ℕ) → IsBadLine geometry texts number → number ≤ n → Contains numbers number
  pub few : n ≤ 4096
  pub below : All (λ number. number ≤ n) numbers
  pub rising : AllPairs (λ x y. x < y) numbers

pub tells_none : (geometry : Geometry) (texts : List (List ℕ)) → TellsFirst geometry texts 0 []
tells_none geometry texts = record {
  are = All-nil (IsBadLine geometry texts);
  each = λ number bad below. absurd (omega (arith, bad.numbered, below));
  few = omega arith;
  below = All-nil (λ number. number ≤ 0);
  rising = λ i j d before inside. absurd (omega (arith, inside));
}

good_more : (geometry : Geometry) (texts : List (List ℕ)) (n number : ℕ) (numbers : List ℕ) (value : Option ScriptLine) → TellsFirst geometry texts n numbers → n < 4096
    → ReadsAs geometry (get_or texts n []) value → (bad : IsBadLine geometry texts number) → (bad.place ≡ n) ⊎ (bad.place < n) → Contains numbers number
good_more geometry texts n number numbers value told few read bad (inr before) = told.each number bad (omega (arith, bad.numbered, before))
good_more geometry texts n number numbers value told few read bad (inl here) = elim bad.bad [
  | inl far ↦ absurd (omega (arith, far, here, few))
  | inr none ↦ absurd (none value (subst (λ (place : ℕ). ReadsAs geometry (get_or texts place []) value) (sym here) read))
]

below_more : (geometry : Geometry) (texts : List (List ℕ)) (n : ℕ) (numbers : List ℕ) → TellsFirst geometry texts n numbers → All (λ number. number ≤ n + 1) numbers
below_more geometry texts n numbers told = λ k d inside. omega (arith, told.below k d inside)

-- one more number is above all of them
rising_more : (geometry : Geometry) (texts : List (List ℕ)) (n : ℕ) (numbers : List ℕ) → TellsFirst geometry texts n numbers → AllPairs (λ x y. x < y) (numbers ++ (n + 1) ∷ [])
rising_more geometry texts n numbers told = all_pairs_push (λ x y. x < y) numbers (n + 1) told.rising (λ k d inside. omega (arith, told.below k d inside))

-- the next line is none of them
pub tells_good : (geometry : Geometry) (texts : List (List ℕ)) (n : ℕ) (numbers : List ℕ) (value : Option ScriptLine) → TellsFirst geometry texts n numbers → n < 4096
    → ReadsAs geometry (get_or texts n []) value → TellsFirst geometry texts (n + 1) numbers
tells_good geometry texts n numbers value told few read = record {
  are = told.are;
  each = λ number bad below. good_more geometry texts n number numbers value told few read bad (eq-or-lt_of_le (omega (arith, bad.numbered, below)));
  few = omega (arith, few);
  below = below_more geometry texts n numbers told;
  rising = told.rising;
}

-- or is one
bad_each : (geometry : Geometry) (texts : List (List ℕ)) (n number : ℕ) (numbers : List ℕ) → TellsFirst geometry texts n numbers → (bad : IsBadLine geometry texts number) → (bad.place ≡ n) ⊎ (bad.place < n)
    → Contains (numbers ++ (n + 1) ∷ []) number
bad_each geometry texts n number numbers told bad (inr before) = Contains-append_left numbers ((n + 1) ∷ []) number (told.each number bad (omega (arith, bad.numbered, before)))
bad_each geometry texts n number numbers told bad (inl here) =
    subst (Contains (numbers ++ (n + 1) ∷ [])) (sym (bad.numbered ∙ ap (λ (k : ℕ). k + 1) here)) (Contains-push numbers (n + 1))

pub bad_are : (geometry : Geometry) (texts : List (List ℕ)) (n : ℕ) (numbers : List ℕ) → TellsFirst geometry texts n numbers → n < length texts
    → ((n ≡ 4096) ⊎ HoldsOfNone (ReadsAs geometry (get_or texts n []))) → All (IsBadLine geometry texts) (numbers ++ (n + 1) ∷ [])
bad_are geometry texts n numbers told below bad =
    let one : IsBadLine geometry texts (n + 1) = record { place = n; numbered = refl; within = below; reached = told.few; bad = bad } in
    All-append (IsBadLine geometry texts) numbers ((n + 1) ∷ []) told.are (All-cons (IsBadLine geometry texts) (n + 1) [] one (All-nil (IsBadLine geometry texts)))

pub tells_bad : (geometry : Geometry) (texts : List (List ℕ)) (n : ℕ) (numbers : List ℕ) → TellsFirst geometry texts n numbers → n < 4096 → n < length texts
    → HoldsOfNone (ReadsAs geometry (get_or texts n [])) → TellsFirst geometry texts (n + 1) (numbers ++ (n + 1) ∷ [])
tells_bad geometry texts n numbers told few below none = record {
  are = bad_are geometry texts n numbers told below (inr none);
  each = λ number bad up. bad_each geometry texts n number numbers told bad (eq-or-lt_of_le (omega (arith, bad.numbered, up)));
  few = omega (arith, few);
  below = All-append (λ number. number ≤ n + 1) numbers ((n + 1) ∷ []) (below_more geometry texts n numbers told)
      (All-cons (λ number. number ≤ n + 1) (n + 1) [] (omega arith) (All-nil (λ number. number ≤ n + 1)));
  rising = rising_more geometry texts n numbers told;
}

-- all lines of a text that were looked at, and all that are there
pub are_all : (geometry : Geometry) (text : List ℕ) (bad : List BadLine) → TellsFirst geometry (text_lines text) (length (text_lines text)) (numbers_of bad) → AreBadLines geometry text bad
are_all geometry text bad told = record { are = told.are; each = λ number is. told.each number is (omega (arith, is.numbered, is.within)); rising = told.rising }

-- the line behind the last that may be is the last one that is told
pub are_with_last : (geometry : Geometry) (text : List ℕ) (numbers : List ℕ) (bad : List BadLine) → TellsFirst geometry (text_lines text) 4096 numbers → 4096 < length (text_lines text)
    → numbers_of bad ≡ numbers ++ 4097 ∷ [] → AreBadLines geometry text bad
are_with_last geometry text numbers bad told below is = record {
  are = subst (All (IsBadLine geometry (text_lines text))) (sym is) (bad_are geometry (text_lines text) 4096 numbers told below (inl refl));
  each = λ number one. subst (λ (some : List ℕ). Contains some number) (sym is) (bad_each geometry (text_lines text) 4096 number numbers told one (eq-or-lt_of_le one.reached));
  rising = subst (AllPairs (λ x y. x < y)) (sym is) (rising_more geometry (text_lines text) 4096 numbers told);
}
