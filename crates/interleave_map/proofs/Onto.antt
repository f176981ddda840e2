-- As many values as there is room for leave none out.
use Rattle.std.specs.Prelude.{◌≡◌, ℕ, ◌<◌, ◌≤◌, true, false, List, [], ◌∷◌, length, refl}
use Rattle.std.specs.List.{list_any, IsDistinct, AllByRecursion}
use Rattle.std.proofs.Common.{arith, zero, suc, ⊎_elim, sym, ◌∙◌, ap, eqb}
use Rattle.std.proofs.lemmas.Bool.{cases_Bool, cases_eq, eqb-true, eq-eqb, ne_eqb}
use Rattle.std.proofs.lemmas.Map.Steps.{length-le_from_distinct_below}
use Rattle.std.proofs.lemmas.Map.Keys.{IsDistinct-cons}
use Rattle.std.proofs.Math.Bool.{or-true}

-- the values at n - 1 down to 0
abbrev pub values_below : (ℕ → ℕ) → ℕ → List ℕ
values_below f zero = []
values_below f (suc n) = f n ∷ values_below f n

length-values_below : (f : ℕ → ℕ) (n : ℕ) → length (values_below f n) ≡ n
length-values_below f zero = refl
length-values_below f (suc n) = ap suc (length-values_below f n)

-- what is found among them is the value of some number
found : (f : ℕ → ℕ) (value n : ℕ) → list_any (eqb value) (values_below f n) ≡ true → (i : ℕ) × (i < n) × (f i ≡ value)
found f value zero is_there = cc
found f value (suc n) is_there = ⊎_elim
    (λ here. (n, omega arith, sym (eqb-true value (f n) here)))
    (λ other. let below = found f value n (rw other at is_there) in (below.0, omega arith, below.2))
    (cases_Bool (eqb value (f n)))

-- what no number has as its value isn't found
not_found : (f : ℕ → ℕ) (value n : ℕ) → ((i : ℕ) → i < n → f i ≡ value → ⊥) → AllByRecursion (λ y. eqb value y ≡ false) (values_below f n)
not_found f value zero none = tt
not_found f value (suc n) none = (ne_eqb value (f n) (λ same. none n (omega arith) (sym same)), not_found f value n (λ i below same. none i (omega arith) same))

distinct : (f : ℕ → ℕ) (n : ℕ) → ((i j : ℕ) → i < n → j < n → f i ≡ f j → i ≡ j) → IsDistinct eqb (values_below f n)
unfolding IsDistinct
distinct f zero apart = tt
distinct f (suc n) apart = (
  not_found f (f n) n (λ i below same. let e = apart i n (omega arith) (omega arith) same in omega arith),
  distinct f n (λ i j i_below j_below same. apart i j (omega arith) (omega arith) same),
)

-- a value is found
is_found : (f : ℕ → ℕ) (value n i : ℕ) → i < n → f i ≡ value → list_any (eqb value) (values_below f n) ≡ true
is_found f value zero i below same = absurd (let bad : ⊥ = omega arith in bad)
is_found f value (suc n) i below same = ⊎_elim
    (λ last. let here : eqb value (f n) ≡ true = eq-eqb value (f n) (sym same ∙ ap f last) in rw here refl)
    (λ earlier. let rest : list_any (eqb value) (values_below f n) ≡ true = is_found f value n i (lower i n below earlier) same in rw rest (or-true (eqb value (f n))))
    (cases_eq i n)
  where
    lower : (i n : ℕ) → i < suc n → (i ≡ n → ⊥) → i < n
    lower i n below other = grind arith

each_below : (n : ℕ) (f : ℕ → ℕ) (m : ℕ) → ((i : ℕ) → i < n → f i < n) → m < n → (value : ℕ) → list_any (eqb value) (m ∷ values_below f n) ≡ true → value < n
each_below n f m within below value is_there = ⊎_elim
    (λ here. let e = eqb-true value m here in omega arith)
    (λ other. let at = found f value n (rw other at is_there) in omega (arith, within at.0 at.1, at.2))
    (cases_Bool (eqb value m))

-- n values below n, no two of them the same, leave no number below n out
pub onto : (n : ℕ) (f : ℕ → ℕ) → ((i : ℕ) → i < n → f i < n) → ((i j : ℕ) → i < n → j < n → f i ≡ f j → i ≡ j) → (m : ℕ) → m < n → (i : ℕ) × (i < n) × (f i ≡ m)
onto n f within apart m below = ⊎_elim
    (λ is_there. found f m n is_there)
    (λ missing. absurd (too_many missing))
    (cases_Bool (list_any (eqb m) (values_below f n)))
  where
    too_many : list_any (eqb m) (values_below f n) ≡ false → ⊥
    too_many missing =
        let long : length (m ∷ values_below f n) ≤ n = length-le_from_distinct_below (m ∷ values_below f n) n
        (IsDistinct-cons eqb m _ (not_found f m n (λ i i_below same. let is_there : list_any (eqb m) (values_below f n) ≡ true = is_found f m n i i_below same in cc)) (distinct f n apart))
        (each_below n f m within below) in
        omega (arith, length-values_below f n)
