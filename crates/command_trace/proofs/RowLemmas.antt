-- The words of a row, by its fields.
use Rattle.std.proofs.Common.{◌≡◌, ◌∙◌, ℕ, ◌<◌, ◌≤◌, ◌^◌, zero, suc, List, [], ◌∷◌, length, Option, Some, None, ap, arith, refl, subst, sym, slice_get}
use Rattle.std.proofs.lemmas.List.{length-map}
use Rattle.std.specs.Option.{option_map}
use Rattle.std.proofs.lemmas.Option.{same_Some, slice_get-map}
use Rattle.csv.specs.Records.{field_at}
use Rattle.command_trace.specs.Rows.{IsBlank, IsDecimal, WritesAt, WritesNone, bare, words_of_row}

-- the field in a place
field_there : (fields : List (List ℕ)) (place : ℕ) → field_at fields place ≡ slice_get fields place
unfolding field_at
field_there [] place = refl
field_there (f ∷ fs) zero = refl
field_there (f ∷ fs) (suc i) = field_there fs i

-- the word in a place, where there is a field
pub word_there : (fields : List (List ℕ)) (place : ℕ) (field : List ℕ) → Some field ≡ field_at fields place → Some (bare field) ≡ slice_get (words_of_row fields) place
word_there fields place field is =
    sym (slice_get-map bare fields place ∙ ap (λ (o : Option (List ℕ)). option_map bare o) (sym (is ∙ field_there fields place)))

-- and where there is none
pub no_word_there : (fields : List (List ℕ)) (place : ℕ) → None ≡ field_at fields place → None ≡ slice_get (words_of_row fields) place
no_word_there fields place is =
    sym (slice_get-map bare fields place ∙ ap (λ (o : Option (List ℕ)). option_map bare o) (sym (is ∙ field_there fields place)))

-- as many words as fields
pub words_count : (fields : List (List ℕ)) → length (words_of_row fields) ≡ length fields
words_count fields = length-map fields bare

-- one empty word
pub one_empty : (words : List (List ℕ)) → length words ≡ 1 → slice_get words 0 ≡ Some [] → IsBlank words
one_empty [] one is = absurd (omega (arith, one))
one_empty (word ∷ []) one is = ap (λ (w : List ℕ). w ∷ []) (same_Some word [] is)
one_empty (word ∷ other ∷ rest) one is = absurd (omega (arith, one))

-- a number is written where its word stands
pub writes_there : (words : List (List ℕ)) (place : ℕ) (word : List ℕ) (n : ℕ) → Some word ≡ slice_get words place → IsDecimal word n → WritesAt words place n
writes_there words place word n is said = record { word = word; stands = sym is; writes = said }

-- none where no word stands
pub no_word_writes : (words : List (List ℕ)) (place : ℕ) → None ≡ slice_get words place → WritesNone words place
no_word_writes words place none = λ n said. absurd (let both : None ≡ Some said.word = none ∙ said.stands in cc)

-- and none where the word is no number
pub no_number_there : (words : List (List ℕ)) (place : ℕ) (word : List ℕ) → Some word ≡ slice_get words place → ((n : ℕ) → IsDecimal word n → 2 ^ 64 ≤ n) → WritesNone words place
no_number_there words place word is none = λ n said.
    let same : said.word ≡ word = same_Some said.word word (sym said.stands ∙ sym is) in
    none n (subst (λ (w : List ℕ). IsDecimal w n) same said.writes)

-- a field without bytes
pub bare_none : (field : List ℕ) → length field ≡ 0 → field ≡ bare field
bare_none [] none = refl
bare_none (b ∷ bs) none = absurd (omega (arith, none))

-- words that are the same in each place
pub same_words : (xs ys : List (List ℕ)) → length xs ≡ length ys → ((k : ℕ) → k < length xs → slice_get xs k ≡ slice_get ys k) → xs ≡ ys
same_words [] [] e f = refl
same_words [] (y ∷ ys) e f = absurd (omega (arith, e))
same_words (x ∷ xs) [] e f = absurd (omega (arith, e))
same_words (x ∷ xs) (y ∷ ys) e f =
    let first : x ≡ y = same_Some x y (f zero (omega arith)) in
    let rest : xs ≡ ys = same_words xs ys (omega (arith, e)) (λ k below. f (suc k) (omega (arith, below))) in
    cc
