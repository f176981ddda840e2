-- Whether the last of some answers tells a fault, behind others.
use Rattle.std.proofs.Common.{◌≡◌, ◌∙◌, ℕ, ◌+◌, ◌-◌, ◌<◌, suc, List, [], ◌∷◌, ◌++◌, Bool, false, length, refl, sym, ap, subst, arith}
use Rattle.std.specs.Prelude.{MatchOption, None, Option, Some, slice_get}
use Rattle.std.proofs.lemmas.List.{append-nil, length-append}
use Rattle.nv_script.specs.declared.answer.Answer.{Answer}
use Rattle.crash_table.specs.Outcomes.{EndsWithFault, tells_fault}

some-length : (given : List Answer) (k : ℕ) (last : Answer) → slice_get given k ≡ Some last → 0 < length given
some-length [] k last at = absurd (let bad : ⊥ = cc in bad)
some-length (first ∷ given) k last at = omega arith

-- the last answer stays the last one behind others
last-behind : (before given : List Answer) (last : Answer) → slice_get given (length given - 1) ≡ Some last → slice_get (before ++ given) (length (before ++ given) - 1) ≡ Some last
last-behind [] given last at = at
last-behind (first ∷ before) given last at =
    let rest : List Answer = before ++ given in
    let some : 0 < length given = some-length given (length given - 1) last at in
    let size : length rest ≡ length before + length given = length-append before given in
    let place : length (first ∷ rest) - 1 ≡ suc (length rest - 1) = omega arith in
    ap (λ (k : ℕ). slice_get (first ∷ rest) k) place ∙ last-behind before given last at

pub ends_with_last : (before given : List Answer) (last : Answer) → slice_get given (length given - 1) ≡ Some last → EndsWithFault (before ++ given) (tells_fault last)
ends_with_last before given last at =
    subst (λ (some : Option Answer). MatchOption some (tells_fault last ≡ false) (λ answer. tells_fault last ≡ tells_fault answer)) (sym (last-behind before given last at)) refl

-- where there are answers, one is the last
record HasLast (given : List Answer) : Type 0 where
  last : Answer
  at : slice_get given (length given - 1) ≡ Some last

has-last : (first : Answer) (given : List Answer) → HasLast (first ∷ given)
has-last first [] = record { last = first; at = refl }
has-last first (next ∷ given) =
    let later : HasLast (next ∷ given) = has-last next given in
    let place : length (first ∷ next ∷ given) - 1 ≡ suc (length (next ∷ given) - 1) = omega arith in
    record { last = later.last; at = ap (λ (k : ℕ). slice_get (first ∷ next ∷ given) k) place ∙ later.at }

-- where there are none, it is as before
pub ends_with_none : (before given : List Answer) (fails : Bool) → slice_get given (length given - 1) ≡ None → EndsWithFault before fails → EndsWithFault (before ++ given) fails
ends_with_none before [] fails none ends = subst (λ (some : List Answer). EndsWithFault some fails) (sym (append-nil before)) ends
ends_with_none before (first ∷ given) fails none ends =
    let last : HasLast (first ∷ given) = has-last first given in
    let both : Some last.last ≡ None = sym last.at ∙ none in
    absurd (let bad : ⊥ = cc in bad)
