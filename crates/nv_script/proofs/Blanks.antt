-- Lines without a word, and the numbers of lines.
use Rattle.std.proofs.Common.{◌≡◌, ◌∙◌, ◌==◌, ℕ, ◌+◌, ◌<◌, Bool, true, false, not, List, [], ◌∷◌, ◌++◌, length, filter, take, get_or, refl, sym, ap, arith, if◌then◌else◌}
use Rattle.std.specs.List.{list_all, onto_first, slice_split}
use Rattle.std.proofs.lemmas.Bool.Decides.{nat_tests}
use Rattle.std.proofs.lemmas.List.{append-nil, length-take, take_more}
use Rattle.nv_script.specs.Texts.{has_no_word, is_skipped, numbers_from}

abbrev is_word : List ℕ → Bool
is_word word = not (length word == 0)

word_counts : (word : List ℕ) (words : List (List ℕ)) → (length (word ∷ words) == 0) ≡ false
word_counts word words = let more : 0 < length (word ∷ words) = omega arith in grind (arith, nat_tests)

begun_word : (x : ℕ) (parts : List (List ℕ)) → (length (filter is_word (onto_first x parts)) == 0) ≡ false
begun_word x [] = refl
begun_word x (part ∷ parts) =
    let some : (length (x ∷ part) == 0) ≡ false = let more : 0 < length (x ∷ part) = omega arith in grind (arith, nat_tests) in
    rw some (word_counts (x ∷ part) (filter is_word parts))

blank_more : (x : ℕ) (xs : List ℕ) (b : Bool) → (x == 32) ≡ b → has_no_word xs ≡ list_all (λ byte. byte == 32) xs → has_no_word (x ∷ xs) ≡ list_all (λ byte. byte == 32) (x ∷ xs)
blank_more x xs true is rest = rw is rest
blank_more x xs false is rest = rw is (begun_word x (slice_split (λ byte. byte == 32) xs))

-- a line has no word where it has nothing but spaces
pub blank_by_spaces : (text : List ℕ) → has_no_word text ≡ list_all (λ byte. byte == 32) text
blank_by_spaces [] = refl
blank_by_spaces (x ∷ xs) = blank_more x xs (x == 32) refl (blank_by_spaces xs)

joined : (b : Bool) (number : ℕ) (some more : List ℕ) → (if b then some ++ more else number ∷ (some ++ more)) ≡ (if b then some else number ∷ some) ++ more
joined true number some more = refl
joined false number some more = refl

abbrev number_of_one : Bool → ℕ → List ℕ
number_of_one skipped number = if skipped then [] else number ∷ []

numbers_push : (number : ℕ) (texts : List (List ℕ)) (text : List ℕ) → numbers_from number (texts ++ text ∷ []) ≡ numbers_from number texts ++ number_of_one (is_skipped text) (number + length texts)
numbers_push number [] text = let same : number ≡ number + 0 = omega arith in ap (number_of_one (is_skipped text)) same
numbers_push number (first ∷ texts) text =
    let rest : List ℕ = numbers_from (number + 1) texts in
    let places : number + 1 + length texts ≡ number + length (first ∷ texts) = omega arith in
    ap (λ (more : List ℕ). if is_skipped first then more else number ∷ more) (numbers_push (number + 1) texts text)
    ∙ joined (is_skipped first) number rest (number_of_one (is_skipped text) (number + 1 + length texts))
    ∙ ap (λ (place : ℕ). (if is_skipped first then rest else number ∷ rest) ++ number_of_one (is_skipped text) place) places

numbers_more : (texts : List (List ℕ)) (n : ℕ) (numbers : List ℕ) → numbers ≡ numbers_from 1 (take n texts) → n < length texts
    → numbers ++ number_of_one (is_skipped (get_or texts n [])) (n + 1) ≡ numbers_from 1 (take (n + 1) texts)
numbers_more texts n numbers are below =
    let line : List ℕ = get_or texts n [] in
    let place : n + 1 ≡ 1 + length (take n texts) = omega (arith, length-take n texts) in
    ap (λ (some : List ℕ). some ++ number_of_one (is_skipped line) (n + 1)) are
    ∙ ap (λ (number : ℕ). numbers_from 1 (take n texts) ++ number_of_one (is_skipped line) number) place
    ∙ sym (numbers_push 1 (take n texts) line) ∙ ap (numbers_from 1) (sym (take_more texts n [] below))

-- a line that is skipped has no number, and one that asks has its own
pub skipped_more : (texts : List (List ℕ)) (n : ℕ) (line numbers : List ℕ) → line ≡ get_or texts n [] → is_skipped line ≡ true → numbers ≡ numbers_from 1 (take n texts) → n < length texts
    → numbers ≡ numbers_from 1 (take (n + 1) texts)
skipped_more texts n line numbers is skipped are below =
    sym (append-nil numbers) ∙ ap (λ (b : Bool). numbers ++ number_of_one b (n + 1)) (sym (sym (ap is_skipped is) ∙ skipped)) ∙ numbers_more texts n numbers are below

pub asked_more : (texts : List (List ℕ)) (n : ℕ) (line numbers : List ℕ) → line ≡ get_or texts n [] → is_skipped line ≡ false → numbers ≡ numbers_from 1 (take n texts) → n < length texts
    → numbers ++ (n + 1) ∷ [] ≡ numbers_from 1 (take (n + 1) texts)
asked_more texts n line numbers is asks are below =
    ap (λ (b : Bool). numbers ++ number_of_one b (n + 1)) (sym (sym (ap is_skipped is) ∙ asks)) ∙ numbers_more texts n numbers are below
