-- A line's text grows word by word.
use Rattle.std.proofs.Common.{◌≡◌, ◌∙◌, ℕ, List, [], ◌∷◌, ◌++◌, Bool, true, true≢false, if◌then◌else◌, refl, sym, ap, append_assoc}
use Rattle.answer_json.specs.Lines.{has_words, spaced}

-- a word behind others
pub spaced_more : (words : List (List ℕ)) (word : List ℕ) → has_words words ≡ true → spaced (words ++ word ∷ []) ≡ spaced words ++ 32 ∷ word
spaced_more [] word none = absurd (true≢false (sym none))
spaced_more (first ∷ []) word some = refl
spaced_more (first ∷ second ∷ words) word some =
    ap (λ (rest : List ℕ). first ++ 32 ∷ rest) (spaced_more (second ∷ words) word refl) ∙ sym (append_assoc first (32 ∷ spaced (second ∷ words)) (32 ∷ word))

pub has_more : (words : List (List ℕ)) (word : List ℕ) → has_words (words ++ word ∷ []) ≡ true
has_more [] word = refl
has_more (first ∷ words) word = refl

-- the text with what stands before the word, and the word
pub put_more : (words : List (List ℕ)) (word old new space : List ℕ) (begun : Bool) → old ≡ spaced words → begun ≡ has_words words
    → space ≡ (if begun then 32 ∷ [] else []) → new ≡ (old ++ space) ++ word → new ≡ spaced (words ++ word ∷ [])
put_more [] word old new space begun is has stands grown =
    let none : space ≡ [] = stands ∙ ap (λ (b : Bool). if b then 32 ∷ [] else []) has in
    grown ∙ ap (λ (s : List ℕ). (old ++ s) ++ word) none ∙ ap (λ (o : List ℕ). (o ++ []) ++ word) is
put_more (first ∷ words) word old new space begun is has stands grown =
    let one : space ≡ 32 ∷ [] = stands ∙ ap (λ (b : Bool). if b then 32 ∷ [] else []) has in
    grown ∙ ap (λ (s : List ℕ). (old ++ s) ++ word) one ∙ append_assoc old (32 ∷ []) word ∙ ap (λ (o : List ℕ). o ++ 32 ∷ word) is
    ∙ sym (spaced_more (first ∷ words) word refl)
