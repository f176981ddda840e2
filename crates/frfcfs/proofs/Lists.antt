-- Lists of requests, read by their places.
use Rattle.std.proofs.Common.{◌≡◌, ℕ, ◌<◌, ◌≤◌, List, [], ◌∷◌, Some, inl, inr, arith, ap, ◌∙◌, sym, subst, get_or, length, All, slice_get}
use Rattle.std.proofs.lemmas.Bool.{cases_lt}
use Rattle.std.proofs.lemmas.Option.{same_Some, slice_get_within, slice_get-get_or, get_or_from_slice_get}
use Rattle.frfcfs.proofs.Common.{AreInOrder, Pending}

-- what holds of each holds of the one at a place
pub All-at : {X : Type 0} (P : X → Type 0) (xs : List X) (i : ℕ) (x : X) → All P xs → slice_get xs i ≡ Some x → P x
All-at P xs i x all at = subst P (get_or_from_slice_get xs i x x at) (all i x (slice_get_within xs i x at))

-- one element stands at a place
pub one_at : {X : Type 0} (xs : List X) (i j : ℕ) (x y : X) → slice_get xs i ≡ Some x → slice_get xs j ≡ Some y → i ≡ j → x ≡ y
one_at xs i j x y at there e = same_Some x y (sym at ∙ ap (λ k. slice_get xs k) e ∙ there)

-- the earlier of two requests is the older
pub order_at : (pending : List Pending) (i j : ℕ) (p q : Pending) → AreInOrder pending → slice_get pending i ≡ Some p → slice_get pending j ≡ Some q → i < j → p.seq < q.seq
order_at pending i j p q order at there h =
    let first = ap (λ (x : Pending). x.seq) (get_or_from_slice_get pending i p p at) in
    let second = ap (λ (x : Pending). x.seq) (get_or_from_slice_get pending j q p there) in
    omega (arith, first, second, order i j p h (slice_get_within pending j q there))

pub order_upto : (pending : List Pending) (i j : ℕ) (p q : Pending) → AreInOrder pending → slice_get pending i ≡ Some p → slice_get pending j ≡ Some q → i ≤ j → p.seq ≤ q.seq
order_upto pending i j p q order at there h =
    elim (cases_lt i j) [
      | inl l ↦ omega (arith, order_at pending i j p q order at there l)
      | inr g ↦ omega (arith, ap (λ (x : Pending). x.seq) (one_at pending i j p q at there (omega arith)))
    ]

-- there is an element at each place
pub something_at : {X : Type 0} (xs : List X) (i : ℕ) → i < length xs → (x : X) × (slice_get xs i ≡ Some x)
something_at [] i within = absurd (omega (arith, within))
something_at (x ∷ xs) i within = (get_or (x ∷ xs) i x, slice_get-get_or (x ∷ xs) i x within)
