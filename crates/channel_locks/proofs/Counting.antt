-- Counts of writes by their numbers, of which no two are the same.
use Rattle.std.specs.Prelude.{All, AllPairs, map, nat_eq, nat_le, not}
use Rattle.std.specs.List.{AllByRecursion, IsDistinct, list_any}
use Rattle.std.specs.Set.{is_member}
use Rattle.std.proofs.Common.{arith, ◌≡◌, ◌==◌, ◌||◌, ◌<◌, ◌≤◌, ℕ, zero, suc, Bool, true, false, cond, refl, sym, ap, subst, ◌∙◌, List, [], ◌∷◌, count_by, filter, length, inl, inr}
use Rattle.std.proofs.lemmas.Bool.{cases_order, eqb-true, leb-true, ne_eqb}
use Rattle.std.proofs.lemmas.Cmp.{nat_eq_equiv}
use Rattle.std.proofs.lemmas.List.{length-map}
use Rattle.std.proofs.lemmas.List.Kept.{AllPairs-filter}
use Rattle.std.proofs.lemmas.List.Sums.{length-filter}
use Rattle.std.proofs.lemmas.Map.Made.{length-le_from_is_member}
use Rattle.std.proofs.lemmas.Option.{same_Some}
use Rattle.line_memory.specs.declared.parts.Numbered.{Numbered}
use Rattle.line_memory.specs.Parts.{AreBefore}
use Rattle.channel_port.specs.declared.waiting.Waiting.{Waiting}
use Rattle.channel_port.specs.Carried.{WaitFrom}
use Rattle.channel_port.specs.Waits.{AllBelow, Has, IsPending}
use Rattle.channel_set.specs.Carrying.{WaitAmong}
use Rattle.channel_set.proofs.Lists.{all-at, all-of}
use Rattle.channel_set.proofs.Piles.{any-found}
use Rattle.channel_locks.specs.Queue.{waits_no_more}

-- what passes a filter
filtered : {X : Type 0} (p : X → Bool) (xs : List X) (x : X) → Has x (filter p xs) → (p x ≡ true) × Has x xs
filtered p [] x (k, at) = absurd cc
filtered p (y ∷ xs) x has = by (p y) refl has (filtered p xs x)
  where
    by : (b : Bool) → p y ≡ b → Has x (cond b (y ∷ filter p xs) (filter p xs)) → (Has x (filter p xs) → (p x ≡ true) × Has x xs) → (p x ≡ true) × Has x (y ∷ xs)
    by true is (zero, at) rest = (ap p (sym (same_Some y x at)) ∙ is, (zero, at))
    by true is (suc k, at) rest = let (passes, (j, there)) = rest (k, at) in (passes, (suc j, there))
    by false is has rest = let (passes, (j, there)) = rest has in (passes, (suc j, there))

-- numbers that rise are distinct
module _ {X : Type 0} (number : X → ℕ) where
  abbrev Rise : List X → Type 0
  Rise xs = AllPairs (λ x y. number x < number y) xs

  above_apart : (n : ℕ) (xs : List X) → All (λ x. n < number x) xs → AllByRecursion (λ m. nat_eq n m ≡ false) (map number xs)
  above_apart n [] above = tt
  above_apart n (x ∷ xs) above = (
    ne_eqb n (number x) (λ e. absurd (let less : n < number x = above zero x (omega arith) in omega arith)),
    above_apart n xs (λ k d less. above (suc k) d (omega (arith, less))),
  )

  rise_distinct : (xs : List X) → Rise xs → IsDistinct nat_eq (map number xs)
  unfolding IsDistinct
  rise_distinct [] rise = tt
  rise_distinct (x ∷ xs) rise = (
    above_apart (number x) xs (λ k d less. rise zero (suc k) d (omega arith) (omega (arith, less))),
    rise_distinct xs (λ i j d below within. rise (suc i) (suc j) d (omega (arith, below)) (omega (arith, within))),
  )

  member_is : (q : ℕ) (xs : List X) → is_member nat_eq (map number xs) q ≡ list_any (λ x. number x == q) xs
  member_is q [] = refl
  member_is q (x ∷ xs) = ap (λ b. b || is_member nat_eq (map number xs) q) (nat_eq_equiv.symm q (number x)) ∙ ap (λ b. (number x == q) || b) (member_is q xs)

-- Where no two of one list have the same number and each number stands in another list, that list is as long at least.
fewer : {X Y : Type 0} (number : X → ℕ) (name : Y → ℕ) (xs : List X) (ys : List Y) → Rise number xs → ((x : X) → Has x xs → list_any (λ y. name y == number x) ys ≡ true) → length xs ≤ length ys
fewer {X} {Y} number name xs ys rise each =
    let named = length-le_from_is_member nat_eq_equiv (map number xs) (map name ys) (rise_distinct number xs rise) (λ q is.
    let found = any-found (λ x. number x == q) xs (sym (member_is number q xs) ∙ is) in
    let same : number found.it ≡ q = eqb-true (number found.it) q found.passes in
    member_is name q ys ∙ subst (λ m. list_any (λ y. name y == m) ys ≡ true) same (each found.it found.has)) in
    let a = length-map xs number in
    let b = length-map ys name in
    omega (arith, named, a, b)

module _ (mine : List Numbered) (rise : AllPairs (λ v w. v.number < w.number) mine) (writes : List Waiting) where
  -- as many writes wait, at least, as are held
  pub held_count : (n : ℕ) → WaitFrom n mine writes → count_by (λ w. nat_le n w.number) mine ≤ length writes
  held_count n held =
      let from = λ (w : Numbered). nat_le n w.number in
      let few = fewer (λ w. w.number) (λ v. v.number) (filter from mine) writes (AllPairs-filter (λ v w. v.number < w.number) from mine rise) (λ w has.
      let (passes, there) = filtered from mine w has in
      all-at (λ w. n ≤ w.number → IsPending w.number writes) mine w held there (leb-true n w.number passes)) in
      let count = length-filter from mine in
      omega (arith, few, count)

-- each write that waits no more is below the hold
pub gone_below : (n : ℕ) (w : Numbered) (writes : List Waiting) → (n ≤ w.number → IsPending w.number writes) → waits_no_more writes w ≡ true → w.number < n
gone_below n w writes held gone = elim (cases_order w.number n) [
  | inl same ↦ still (omega (arith, same))
  | inr (inl less) ↦ less
  | inr (inr more) ↦ still (omega (arith, more))
]
  where
    still : n ≤ w.number → w.number < n
    still from = absurd (let waits = held from in let no : not true ≡ true = ap not (sym waits) ∙ gone in let bad : ⊥ = cc in bad)

pub all_above : (number : ℕ) (mine : List Numbered) (writes : List Waiting) → WaitAmong mine writes → AreBefore number mine → AllBelow number writes
all_above number mine writes among before = all-of (λ v. v.number < number) writes (λ k v at.
    let (w, there, named) = among v (k, at) in
    subst (λ m. m < number) named (all-at (λ w. w.number < number) mine w before there))
