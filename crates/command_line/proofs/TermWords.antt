-- Words of terms.
use Rattle.std.proofs.Common.{◌≡◌, ℕ, zero, suc, ◌<◌, List, [], ◌∷◌, ◌++◌, codes, length, map, slice_index_or, Contains, IfSome, Option, Some, None, arith, refl, subst, sym}
use Rattle.std.specs.Borrow.{Bor}
use Rattle.std.specs.String.{string_bytes}
use Rattle.command_faults.specs.declared.failure.Reason.{Reason}
use Rattle.command_faults.specs.declared.failure.Reason.TheVariants.{Known, Told}
use Rattle.command_help.specs.declared.terms.Term.{Term}
use Rattle.command_line.specs.Help.{NamesOne, TellsNear}

-- one of these terms has this word
abbrev HasWord : List Term → Bor (List ℕ) → Type 0
HasWord terms word = (term : Term) × Contains terms term × (term.word ≡ word)

word_at : (terms : List Term) (word : Bor (List ℕ)) (k : ℕ) → k < length (map (λ term. term.word) terms) → slice_index_or (map (λ term. term.word) terms) k word ≡ word → HasWord terms word
word_at [] word k below at = absurd (omega (arith, below))
word_at (term ∷ terms) word zero below at = (term, (zero, omega arith, refl), at)
word_at (term ∷ terms) word (suc k) below at =
    let more = word_at terms word k (omega (arith, below)) at in
    (more.0, (suc more.1.0, omega (arith, more.1.1), more.1.2), more.2)

-- a word of these is that of one of the terms
pub word_of_one : (terms : List Term) (words : List (Bor (List ℕ))) (word : Bor (List ℕ)) → words ≡ map (λ term. term.word) terms → Contains words word → HasWord terms word
word_of_one terms words word is there =
    let here : Contains (map (λ term. term.word) terms) word = subst (λ (some : List (Bor (List ℕ))). Contains some word) is there in
    word_at terms word here.0 here.1 here.2

-- a reason that asks for a near word of these asks for that of one of the terms
pub names_near : (terms : List Term) (words : List (Bor (List ℕ))) (near : Bor (List ℕ)) (reason : Option Reason) → words ≡ map (λ term. term.word) terms
    → Contains words near → IfSome reason (TellsNear near.now) → IfSome reason (NamesOne terms)
names_near terms words near None is there told = tt
names_near terms words near (Some (Told text)) is there told =
    let one = word_of_one terms words near is there in
    (one.0, one.1, subst (λ (word : Bor (List ℕ)). string_bytes text ≡ word.now ++ codes "?") (sym one.2) told)
names_near terms words near (Some (Known text)) is there told = absurd told
