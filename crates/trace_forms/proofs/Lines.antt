-- The words of a line, and the numbers of its parts.
use Rattle.std.proofs.Common.{◌≡◌, ◌≢◌, ◌∙◌, ℕ, ◌+◌, ◌<◌, ◌≤◌, ◌^◌, Bool, true, List, [], ◌∷◌, ◌++◌, Option, Some, None, get_or, length, map, subst, sym, take, ap, refl, inl, inr}
use Rattle.std.proofs.lemmas.Bool.{cases_lt, eq-eqb, ne_eqb}
use Rattle.std.proofs.lemmas.List.{get_or-map, length-map, map-append, take_more}
use Rattle.std.proofs.lemmas.Option.{same_Some, slice_get_past, slice_get_read, slice_get-map}
use Rattle.std.specs.Borrow.{Bor}
use Rattle.std.specs.List.{Contains}
use Rattle.std.specs.Str.Parse.{IsNumeral, digits_value, without_leading_plus}
use Rattle.trace_forms.specs.Columns.{place_of}
use Rattle.trace_forms.specs.Forms.{IsNoForm, IsNoOrder, IsNoSlot, IsNumberOf, commas_in, is_hex_part, slot_name, word_of, words_in}
use Rattle.trace_forms.specs.Words.{IsDigits, IsNumber, texts_of, trimmed, words_of}
use Rattle.trace_forms.specs.declared.naming.FormFault.{FormFault}
use Rattle.trace_forms.specs.declared.naming.FormFault.TheVariants.{Name, Twice, Memory}
use Rattle.trace_forms.specs.declared.form.ForeignForm.{ForeignForm}
use Rattle.trace_forms.specs.declared.part.Part.{Part}

-- a line that isn't one of the form, by what stands between its words
pub no_words : (f : ForeignForm) (line : List ℕ) → commas_in f.separator line ≡ None → words_in f line ≡ None
no_words f line e = rw e refl

-- one that is
pub line_words : (f : ForeignForm) (line : List ℕ) (words : List (List ℕ)) (has_commas : Bool) → commas_in f.separator line ≡ Some has_commas → words ≡ words_of has_commas line
    → length words ≡ f.count → words_in f line ≡ Some words
line_words f line words has_commas e is count = rw (e, ← is, eq-eqb (length words) f.count count) refl

-- and one of another number of words
pub other_words : (f : ForeignForm) (line : List ℕ) (words : List (List ℕ)) (has_commas : Bool) → commas_in f.separator line ≡ Some has_commas → words ≡ words_of has_commas line
    → length words ≢ f.count → words_in f line ≡ None
other_words f line words has_commas e is count = rw (e, ← is, ne_eqb (length words) f.count count) refl

-- digits that don't fit 64 bits
pub no_digits : (base : ℕ) (word : List ℕ) (n : ℕ) → (¬ (IsNumeral base (without_leading_plus word) × (digits_value base (without_leading_plus word) < 2 ^ 64))) → IsDigits base word n → 2 ^ 64 ≤ n
no_digits base word n none d = elim (cases_lt n (2 ^ 64)) [
  | inl small ↦ absurd (none (d.numeral, subst (λ (m : ℕ). m < 2 ^ 64) d.value small))
  | inr large ↦ large
]

-- a part that no column has, or whose column no word stands in, has no number
pub no_number : (f : ForeignForm) (words : List (List ℕ)) (p : Part) (n : ℕ) → word_of f words p ≡ None → IsNumberOf f words p n → 2 ^ 64 ≤ n
no_number f words p n none said = absurd (let both : None ≡ Some said.0 = sym none ∙ said.1 in cc)

pub word_number : (f : ForeignForm) (words : List (List ℕ)) (p : Part) (word : List ℕ) (n : ℕ) → word_of f words p ≡ Some word → IsNumber (is_hex_part f p) word n → IsNumberOf f words p n
word_number f words p word n is said = (word, is, said)

pub past_word : (f : ForeignForm) (words : List (List ℕ)) (p : Part) (word : List ℕ) (n : ℕ) → word_of f words p ≡ Some word → ((m : ℕ) → IsNumber (is_hex_part f p) word m → 2 ^ 64 ≤ m)
    → IsNumberOf f words p n → 2 ^ 64 ≤ n
past_word f words p word n is none said =
    let same : said.0 ≡ word = same_Some said.0 word (sym said.1 ∙ is) in
    none n (subst (λ (w : List ℕ). IsNumber (is_hex_part f p) w n) same said.2)

-- the word of a part that no column has, of one whose column no word stands in, and of another
pub no_place : (f : ForeignForm) (words : List (List ℕ)) (p : Part) → place_of f.columns p ≡ None → word_of f words p ≡ None
no_place f words p e = rw e refl

pub no_word_there : (f : ForeignForm) (words : List (Bor (List ℕ))) (p : Part) (k : ℕ) → place_of f.columns p ≡ Some k → length words ≤ k → word_of f (texts_of words) p ≡ None
no_word_there f words p k e past =
    let none = slice_get_past (texts_of words) k (rw length-map past) in
    rw (e, none) refl

pub word_there : (f : ForeignForm) (words : List (Bor (List ℕ))) (p : Part) (k : ℕ) (w : Bor (List ℕ)) → place_of f.columns p ≡ Some k → k < length words → w ≡ get_or words k w
    → word_of f (texts_of words) p ≡ Some (trimmed w.now)
word_there f words p k w e within is =
    let there = slice_get_read words (length words) k w refl within is in
    rw (e, slice_get-map (λ (word : Bor (List ℕ)). word.now) words k, there) refl

-- the columns that words name, as far as a place
pub one_more : (order : List (Option Part)) (slot : Option Part) (words : List (Bor (List ℕ))) (i : ℕ) (d : Bor (List ℕ)) → i < length words → map slot_name order ≡ texts_of (take i words)
    → slot_name slot ≡ (get_or words i d).now → map slot_name (order ++ slot ∷ []) ≡ texts_of (take (i + 1) words)
one_more order slot words i d within before named =
    let now : Bor (List ℕ) → List ℕ = λ word. word.now in
    let left : map slot_name (order ++ slot ∷ []) ≡ map slot_name order ++ slot_name slot ∷ [] = map-append slot_name order (slot ∷ []) in
    let right : texts_of (take (i + 1) words) ≡ texts_of (take i words) ++ now (get_or words i d) ∷ [] =
    ap (map now) (take_more words i d within) ∙ map-append now (take i words) (get_or words i d ∷ []) in
    left ∙ ap (λ (l : List (List ℕ)). l ++ slot_name slot ∷ []) before ∙ ap (λ (x : List ℕ). texts_of (take i words) ++ x ∷ []) named ∙ sym right

-- a word that names no column
pub refused_word : (words : List (Bor (List ℕ))) (i : ℕ) (d : Bor (List ℕ)) (why : FormFault) → i < length words → why ≡ Name → IsNoSlot (get_or words i d).now → IsNoOrder (texts_of words) why
refused_word words i d why within is none =
    let word : List ℕ = (get_or words i d).now in
    let there : Contains (texts_of words) word = (i, rw length-map within, get_or-map (λ (w : Bor (List ℕ)). w.now) words i d word within) in
    subst (λ (w : FormFault). IsNoOrder (texts_of words) w) (sym is) (word, there, none)

-- and a list with one gives no form
pub no_order : (names : List ℕ) (words : List (List ℕ)) (why : FormFault) → words ≡ words_of true names → IsNoOrder words why → IsNoForm names why
no_order names words Name is none = rw is at none
no_order names words (Twice p) is none = absurd none
no_order names words Memory is none = tt
