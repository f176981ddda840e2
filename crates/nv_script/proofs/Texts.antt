-- Lines of a text that ask for nothing, and lines that do.
use Rattle.std.proofs.Common.{◌≡◌, ◌∙◌, ◌==◌, ◌||◌, ◌<◌, ℕ, Bool, true, false, List, [], ◌∷◌, length, slice_index, Some, None, refl, sym, ap, subst, arith}
use Rattle.std.proofs.lemmas.Bool.Decides.{nat_tests}
use Rattle.ddr4_timing.specs.declared.timing.Geometry.{Geometry}
use Rattle.nv_profile.specs.Nothing.{HoldsOfNone}
use Rattle.nv_script.specs.Texts.{ReadsAs, is_skipped}
use Rattle.nv_script.specs.Words.{SaysLine, words_in}

or_true : (b : Bool) → (b || true) ≡ true
or_true true = refl
or_true false = refl

pub skipped_without_words : (text : List ℕ) (words : List (List ℕ)) → words ≡ words_in text → length words ≡ 0 → is_skipped text ≡ true
skipped_without_words text [] is none = ap (λ (some : List (List ℕ)). (slice_index text 0 == 35) || (length some == 0)) (sym is) ∙ or_true (slice_index text 0 == 35)
skipped_without_words text (first ∷ more) is none = absurd (omega arith)

is_some : (n : ℕ) → 0 < n → (n == 0) ≡ false
is_some n some = grind (arith, nat_tests)

pub read_by_words : (text : List ℕ) (words : List (List ℕ)) → words ≡ words_in text → (slice_index text 0 == 35) ≡ false → 0 < length words → is_skipped text ≡ false
read_by_words text words is begins some =
    ap (λ (some : List (List ℕ)). (slice_index text 0 == 35) || (length some == 0)) (sym is) ∙ ap (λ (b : Bool). b || (length words == 0)) begins ∙ is_some (length words) some

pub comes_to_none : (geometry : Geometry) (text : List ℕ) (words : List (List ℕ)) → words ≡ words_in text → is_skipped text ≡ false → HoldsOfNone (SaysLine geometry words) → HoldsOfNone (ReadsAs geometry text)
comes_to_none geometry text words is asks none None said = let skipped = said.1 in absurd cc
comes_to_none geometry text words is asks none (Some line) said = none line (subst (λ (some : List (List ℕ)). SaysLine geometry some line) (sym is) said.2)
