-- Lists that get one element more, or lose one.
use Rattle.std.proofs.lemmas.Option.{get_or_from_slice_get, same_Some, slice_get-get_or, slice_get_within}
use Rattle.std.proofs.lemmas.Bool.{cases_eq}
use Rattle.std.specs.Prelude.{AllPairs}
use Rattle.std.proofs.lemmas.List.{drop-map, map-append, take-map}
use Rattle.std.proofs.lemmas.List.Quantifiers.{all_pairs_push, all_pairs_remove}
use Rattle.circular_buffer.proofs.Places.{slice_get-last, slice_get-push}
use Rattle.std.proofs.Common.{◌≡◌, ℕ, zero, suc, ◌<◌, ◌≤◌, ◌⊎◌, inl, inr, List, [], ◌∷◌, ◌++◌, map, length, slice_get, get_or, drop, remove, sym, take, Some, ◌∙◌, arith, All}

-- an element of a longer list is one of the list, or the last
pub record Appended {X : Type 0} (xs : List X) (x : X) (i : ℕ) (y : X) : Type 0 where
  pub is : (slice_get xs i ≡ Some y) ⊎ ((i ≡ length xs) × (x ≡ y))

pub appended : {X : Type 0} (xs : List X) (x : X) (i : ℕ) (y : X) → slice_get (xs ++ x ∷ []) i ≡ Some y → Appended xs x i y
appended xs x i y at = elim (cases_eq i (length xs)) [
  | inl e ↦ record { is = inr (e, same_Some x y (sym (slice_get-last xs x i e) ∙ at)) }
  | inr other ↦ record { is = inl (sym (slice_get-push xs x i other) ∙ at) }
]

-- where an element of a shorter list stood
pub before_removal : {X : Type 0} (xs : List X) (i k : ℕ) (y : X) → i < length xs → slice_get (remove xs i) k ≡ Some y → ((k < i) × (slice_get xs k ≡ Some y)) ⊎ ((i ≤ k) × (slice_get xs (suc k) ≡ Some y))
before_removal [] i k y less at = absurd (omega (arith, less))
before_removal (x ∷ xs) zero k y less at = inr (omega arith, at)
before_removal (x ∷ xs) (suc i) zero y less at = inl (omega arith, at)
before_removal (x ∷ xs) (suc i) (suc k) y less at = elim (before_removal xs i k y (omega (arith, less)) at) [
  | inl h ↦ inl (omega (arith, h.0), h.1)
  | inr h ↦ inr (omega (arith, h.0), h.1)
]

-- taking out commutes with a map
pub map-remove : {X Y : Type 0} (f : X → Y) (xs : List X) (i : ℕ) → map f (remove xs i) ≡ remove (map f xs) i
map-remove f xs i = rw (take-map f i xs, drop-map f (suc i) xs) (map-append f (take i xs) (drop (suc i) xs))

-- what holds of each that is there
pub all-of : {X : Type 0} (P : X → Type 0) (xs : List X) → ((i : ℕ) (x : X) → slice_get xs i ≡ Some x → P x) → All P xs
all-of P xs each i d less = each i (get_or xs i d) (slice_get-get_or xs i d less)

-- what holds of each two, the earlier before the later
abbrev pub Pairs : {X : Type 0} → (X → X → Type 0) → List X → Type 0
Pairs {X} R xs = (i j : ℕ) (a b : X) → i < j → slice_get xs i ≡ Some a → slice_get xs j ≡ Some b → R a b

-- the same, as std says it
pub all-pairs : {X : Type 0} (R : X → X → Type 0) (xs : List X) → Pairs R xs → AllPairs R xs
all-pairs R xs pairs i j d less within = pairs i j (get_or xs i d) (get_or xs j d) less (slice_get-get_or xs i d (omega (arith, less, within))) (slice_get-get_or xs j d within)

pairs-of : {X : Type 0} (R : X → X → Type 0) (xs : List X) → AllPairs R xs → Pairs R xs
pairs-of R xs all i j a b less at at' = rw (get_or_from_slice_get xs i a b at, get_or_from_slice_get xs j b b at') at (all i j b less (slice_get_within xs j b at'))

-- with one more behind them
pub pairs-push : {X : Type 0} (R : X → X → Type 0) (xs : List X) (x : X) → Pairs R xs → ((i : ℕ) (a : X) → slice_get xs i ≡ Some a → R a x) → Pairs R (xs ++ x ∷ [])
pairs-push R xs x pairs last = pairs-of R (xs ++ x ∷ []) (all_pairs_push R xs x (all-pairs R xs pairs) (λ k d less. last k (get_or xs k d) (slice_get-get_or xs k d less)))

-- without one of them
pub pairs-remove : {X : Type 0} (R : X → X → Type 0) (xs : List X) (n : ℕ) → n < length xs → Pairs R xs → Pairs R (remove xs n)
pairs-remove R xs n within pairs = pairs-of R (remove xs n) (all_pairs_remove R xs n within (all-pairs R xs pairs))
