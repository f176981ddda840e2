-- What `filter_map` keeps of a list from which an element is taken, or in which one changes.
use Rattle.std.proofs.Common.{◌≡◌, ℕ, zero, suc, List, [], ◌∷◌, ◌≤◌, ◌↔◌, Bool, true, false, IsTrue, length, map, take, slice_get, slice_set, remove, Option, Some, None, refl, ap, subst, ◌∙◌, arith}
use Rattle.std.specs.List.{filter_map, cons_option}
use Rattle.std.specs.Option.{option_map}
use Rattle.std.proofs.lemmas.List.{length-append, take-append-drop, take-take}
use Rattle.std.proofs.lemmas.List.Elements.{filter_map-append}
use Rattle.std.proofs.lemmas.Option.{slice_get-map}

module _ {X Y : Type 0} (h : X → Option Y) where
  -- how many of the first i are kept
  abbrev pub kept : ℕ → List X → ℕ
  kept i xs = length (filter_map h (take i xs))

  pub filter_map-without : (xs : List X) (i : ℕ) (x : X) → slice_get xs i ≡ Some x → h x ≡ None → filter_map h (remove xs i) ≡ filter_map h xs
  filter_map-without [] i x at none = absurd cc
  filter_map-without (y ∷ ys) zero x at none = let same : y ≡ x = cc in rw (same, none) refl
  filter_map-without (y ∷ ys) (suc i) x at none = ap (cons_option (h y)) (filter_map-without ys i x at none)

  cons-remove : (o : Option Y) (xs : List X) (i : ℕ) (ys : List Y) → ys ≡ remove (filter_map h xs) (kept i xs)
      → cons_option o ys ≡ remove (cons_option o (filter_map h xs)) (length (cons_option o (filter_map h (take i xs))))
  cons-remove None xs i ys e = e
  cons-remove (Some y) xs i ys e = ap (λ (rest : List Y). y ∷ rest) e

  pub filter_map-taken : (xs : List X) (i : ℕ) (x : X) (y : Y) → slice_get xs i ≡ Some x → h x ≡ Some y → filter_map h (remove xs i) ≡ remove (filter_map h xs) (kept i xs)
  filter_map-taken [] i x y at some = absurd cc
  filter_map-taken (z ∷ zs) zero x y at some = let same : z ≡ x = cc in rw (same, some) refl
  filter_map-taken (z ∷ zs) (suc i) x y at some = cons-remove (h z) zs i (filter_map h (remove zs i)) (filter_map-taken zs i x y at some)

  pub filter_map-changed : (xs : List X) (i : ℕ) (x x' : X) (y : Y) → slice_get xs i ≡ Some x → h x ≡ Some y → h x' ≡ None → filter_map h (slice_set xs i x') ≡ remove (filter_map h xs) (kept i xs)
  filter_map-changed [] i x x' y at some none = absurd cc
  filter_map-changed (z ∷ zs) zero x x' y at some none = let same : z ≡ x = cc in rw (same, some, none) refl
  filter_map-changed (z ∷ zs) (suc i) x x' y at some none = cons-remove (h z) zs i (filter_map h (slice_set zs i x')) (filter_map-changed zs i x x' y at some none)

  -- a kept element stands behind those that are kept of the ones before it
  pub filter_map-at : (xs : List X) (i : ℕ) (x : X) (y : Y) → slice_get xs i ≡ Some x → h x ≡ Some y → slice_get (filter_map h xs) (kept i xs) ≡ Some y
  filter_map-at [] i x y at some = absurd cc
  filter_map-at (z ∷ zs) zero x y at some = let same : z ≡ x = cc in rw (same, some) refl
  filter_map-at (z ∷ zs) (suc i) x y at some =
      let rest = filter_map-at zs i x y at some in elim (h z) as (λ o. slice_get (cons_option o (filter_map h zs)) (length (cons_option o (filter_map h (take i zs)))) ≡ Some y) [ None ↦ rest | Some first ↦ rest ]

  -- where a kept element comes from
  pub record Origin (xs : List X) (k : ℕ) (y : Y) : Type 0 where
    pub place : ℕ
    pub element : X
    pub at : slice_get xs place ≡ Some element
    pub gives : h element ≡ Some y
    pub before : kept place xs ≡ k

  origin-head : (x : X) (xs : List X) (o : Option Y) → h x ≡ o → (k : ℕ) (y : Y) → ((k : ℕ) → slice_get (filter_map h xs) k ≡ Some y → Origin xs k y)
      → slice_get (cons_option o (filter_map h xs)) k ≡ Some y → Origin (x ∷ xs) k y
  origin-head x xs None e k y rest at = let o = rest k at in record { place = suc o.place; element = o.element; at = o.at; gives = o.gives; before = rw e o.before }
  origin-head x xs (Some z) e zero y rest at = record { place = zero; element = x; at = refl; gives = e ∙ at; before = refl }
  origin-head x xs (Some z) e (suc k) y rest at = let o = rest k at in record { place = suc o.place; element = o.element; at = o.at; gives = o.gives; before = rw e (ap suc o.before) }

  pub filter_map-origin : (xs : List X) (k : ℕ) (y : Y) → slice_get (filter_map h xs) k ≡ Some y → Origin xs k y
  filter_map-origin [] k y at = absurd cc
  filter_map-origin (x ∷ xs) k y at = origin-head x xs (h x) refl k y (λ k. filter_map-origin xs k y) at

  pub length-filter_map : (xs : List X) → length (filter_map h xs) ≤ length xs
  length-filter_map [] = omega arith
  length-filter_map (x ∷ xs) =
      let rest = length-filter_map xs in elim (h x) as (λ o. length (cons_option o (filter_map h xs)) ≤ suc (length xs)) [ None ↦ omega (arith, rest) | Some y ↦ omega (arith, rest) ]

  -- no fewer are kept of more
  pub kept-more : (xs : List X) (i j : ℕ) → i ≤ j → kept i xs ≤ kept j xs
  kept-more xs i j less =
      let front = simp (filter_map-append, length-append, take-take i j xs less) at (ap (λ ys. length (filter_map h ys)) (take-append-drop i (take j xs))) in omega (arith, front)

-- where lists keep the same, what one keeps comes from the other too
pub kept-alike : {X Y Z : Type 0} (h : X → Option Y) (g : Z → Option Y) (xs : List X) (zs : List Z) → filter_map h xs ≡ filter_map g zs → (i : ℕ) (x : X) (y : Y) → slice_get xs i ≡ Some x → h x ≡ Some y → Origin g zs (kept h i xs) y
kept-alike h g xs zs same i x y at gives = filter_map-origin g zs (kept h i xs) y (subst (λ ys. slice_get ys (kept h i xs) ≡ Some y) same (filter_map-at h xs i x y at gives))

-- f and g do the same to each element
pub map_alike : {X Y : Type 0} (f g : X → Y) (xs : List X) → ((k : ℕ) (x : X) → slice_get xs k ≡ Some x → f x ≡ g x) → map f xs ≡ map g xs
map_alike f g [] alike = refl
map_alike f g (x ∷ xs) alike = let head : f x ≡ g x = alike zero x refl in rw head (ap (λ rest. g x ∷ rest) (map_alike f g xs (λ k y at. alike (suc k) y at)))

-- what stands at a place of a mapped list
pub map-at : {X Y : Type 0} (f : X → Y) (xs : List X) (k : ℕ) (x : X) → slice_get xs k ≡ Some x → slice_get (map f xs) k ≡ Some (f x)
map-at f xs k x at = slice_get-map f xs k ∙ ap (option_map f) at

pub map-from : {X Y : Type 0} (f : X → Y) (xs : List X) (k : ℕ) (y : Y) → slice_get (map f xs) k ≡ Some y → (x : X) × (slice_get xs k ≡ Some x) × (f x ≡ y)
map-from f [] k y at = absurd cc
map-from f (x ∷ xs) zero y at = (x, refl, cc)
map-from f (x ∷ xs) (suc k) y at = map-from f xs k y at

-- what a test that answers no says
pub refuted : {A : Type 0} (b : Bool) → (IsTrue b ↔ A) → b ≡ false → ¬ A
refuted b tells is a = let t : b ≡ true = tells.1 a in absurd cc

-- what is kept doesn't see the change of each element
pub filter_map-unseen : {X Y : Type 0} (h : X → Option Y) (f : X → X) → ((x : X) → h (f x) ≡ h x) → (xs : List X) → filter_map h (map f xs) ≡ filter_map h xs
filter_map-unseen h f same [] = refl
filter_map-unseen h f same (x ∷ xs) = rw (same x) (ap (cons_option (h x)) (filter_map-unseen h f same xs))
