-- The columns of a list, as far as a place.
use Rattle.std.proofs.Common.{◌≡◌, ◌↔◌, ℕ, zero, suc, ◌+◌, ◌<◌, ◌==◌, false, if◌then◌else◌, List, length, Option, Some, None, IsTrue, is_some, get_or, replicate, set, slice_get, slice_index_or, slice_set, refl, sym, ap, subst, ◌∙◌, inl, inr, arith}
use Rattle.std.proofs.lemmas.Bool.{cases_eq, cases_lt}
use Rattle.std.proofs.lemmas.List.{get_or-set_same, get_or-set_other}
use Rattle.std.proofs.lemmas.Option.{same_Some, slice_get_within}
use Rattle.trace_forms.specs.Columns.{AreColumnsOf, IsColumnOf, StandsTwice, part_number, place_of}
use Rattle.trace_forms.specs.declared.columns.Columns.{Columns}
use Rattle.trace_forms.specs.declared.part.Part.{Part}
use Rattle.trace_forms.specs.declared.part.Part.TheVariants as part

-- the part of a number
abbrev part_at : ℕ → Part
part_at n =
    if n == 0 then part.Clock else if n == 1 then part.Command else if n == 2 then part.Channel else if n == 3 then part.Rank else
    if n == 4 then part.Group else if n == 5 then part.Bank else if n == 6 then part.Row else part.Column

by_number : (p : Part) → part_at (part_number p) ≡ p
by_number part.Clock = refl
by_number part.Command = refl
by_number part.Channel = refl
by_number part.Rank = refl
by_number part.Group = refl
by_number part.Bank = refl
by_number part.Row = refl
by_number part.Column = refl

same_part : (a b : Part) → part_number a ≡ part_number b → a ≡ b
same_part a b e = sym (by_number a) ∙ ap part_at e ∙ by_number b

few_parts : (p : Part) → part_number p < 8
few_parts part.Clock = omega arith
few_parts part.Command = omega arith
few_parts part.Channel = omega arith
few_parts part.Rank = omega arith
few_parts part.Group = omega arith
few_parts part.Bank = omega arith
few_parts part.Row = omega arith
few_parts part.Column = omega arith

-- each part stands in the column that the list has it in before this one
abbrev pub AreColumnsUpTo : ℕ → List (Option Part) → Columns → Type 0
AreColumnsUpTo n order c = (p : Part) (k : ℕ) → (place_of c p ≡ Some k) ↔ ((k < n) × IsColumnOf order p k)

abbrev pub nowhere : Option ℕ
nowhere = None

none_at : (n i : ℕ) → slice_index_or (replicate n nowhere) i None ≡ None
none_at zero i = refl
none_at (suc n) zero = refl
none_at (suc n) (suc i) = none_at n i

pub none_placed : (order : List (Option Part)) (c : Columns) → c.places ≡ replicate 8 nowhere → AreColumnsUpTo 0 order c
none_placed order c e p k = (
  λ h.
      let none : place_of c p ≡ None = ap (λ (l : List (Option ℕ)). slice_index_or l (part_number p) None) e ∙ none_at 8 (part_number p) in
      absurd (let both : None ≡ Some k = sym none ∙ h in cc),
  λ h. let below = h.0 in absurd (omega (arith, below)),
)

last_place : (k n : ℕ) → k < n + 1 → (¬ (k < n)) → k ≡ n
last_place k n h past = grind (arith, h, past)

-- a column that is passed over
pub passed_over : (order : List (Option Part)) (c : Columns) (n : ℕ) → slice_get order n ≡ Some None → AreColumnsUpTo n order c → AreColumnsUpTo (n + 1) order c
passed_over order c n over up p k = (
  λ h. let u = (up p k).0 h in (let below = u.0 in omega (arith, below), u.1),
  λ h. elim (cases_lt k n) [
    | inl before ↦ (up p k).1 (before, h.1)
    | inr last ↦
        let below = h.0 in
        let same : k ≡ n = omega (arith, last, below) in
        absurd (let both : Some None ≡ Some (Some p) = sym over ∙ sym (ap (slice_get order) same) ∙ h.1 in cc)
  ],
)

-- a part in its column
pub put_in : (order : List (Option Part)) (old new : Columns) (n : ℕ) (q : Part) → length old.places ≡ 8 → new.places ≡ slice_set old.places (part_number q) (Some n)
    → place_of old q ≡ None → slice_get order n ≡ Some (Some q) → AreColumnsUpTo n order old → AreColumnsUpTo (n + 1) order new
put_in order old new n q size e free found up p k = elim (cases_eq (part_number q) (part_number p)) [
  | inl same ↦
      let is : q ≡ p = same_part q p same in
      let within : part_number q < length old.places = rw size (few_parts q) in
      let at : place_of new p ≡ Some n =
      ap (λ (l : List (Option ℕ)). slice_index_or l (part_number p) None) e
      ∙ ap (λ i. get_or (set old.places (part_number q) (Some n)) i None) (sym same)
      ∙ get_or-set_same old.places (part_number q) (Some n) None within in
      let here : IsColumnOf order p n = found ∙ ap (λ (x : Part). Some (Some x)) is in
      let none : place_of old p ≡ None = subst (λ (x : Part). place_of old x ≡ None) is free in (
        λ h.
            let same_place : n ≡ k = same_Some n k (sym at ∙ h) in
            (omega (arith, same_place), subst (λ (i : ℕ). IsColumnOf order p i) same_place here),
        λ h. elim (cases_lt k n) [
          | inl before ↦ absurd (let there : None ≡ Some k = sym none ∙ (up p k).1 (before, h.1) in cc)
          | inr last ↦
              let below = h.0 in
              let same_place : n ≡ k = omega (arith, last, below) in
              at ∙ ap (λ (i : ℕ). Some i) same_place
        ],
      )
  | inr other ↦
      let kept : place_of new p ≡ place_of old p =
      ap (λ (l : List (Option ℕ)). slice_index_or l (part_number p) None) e
      ∙ get_or-set_other old.places (part_number q) (part_number p) (Some n) None (λ s. other (sym s)) in (
        λ h. let u = (up p k).0 (sym kept ∙ h) in (let below = u.0 in omega (arith, below), u.1),
        λ h. elim (cases_lt k n) [
          | inl before ↦ kept ∙ (up p k).1 (before, h.1)
          | inr last ↦
              let below = h.0 in
              let same_place : k ≡ n = omega (arith, last, below) in
              let both : Some q ≡ Some p = same_Some (Some q) (Some p) (sym found ∙ sym (ap (slice_get order) same_place) ∙ h.1) in
              absurd (other (ap part_number (same_Some q p both)))
        ],
      )
]

-- the whole list
pub placed_whole : (order : List (Option Part)) (c : Columns) → AreColumnsUpTo (length order) order c → AreColumnsOf order c
placed_whole order c up p k = (λ h. ((up p k).0 h).1, λ h. (up p k).1 (slice_get_within order k (Some p) h, h))

pub no_some : (o : Option ℕ) → is_some o ≡ false → o ≡ None
no_some None e = refl
no_some (Some k) e = absurd cc

-- a part that stood before
pub stands_again : (order : List (Option Part)) (c : Columns) (n : ℕ) (q : Part) (o : Option ℕ) → place_of c q ≡ o → IsTrue (is_some o) → slice_get order n ≡ Some (Some q)
    → AreColumnsUpTo n order c → StandsTwice order q
stands_again order c n q None e h found up = absurd cc
stands_again order c n q (Some k) e h found up =
    let u = (up q k).0 e in record {
      first = k;
      second = n;
      before = u.0;
      first_is = u.1;
      second_is = found;
    }
