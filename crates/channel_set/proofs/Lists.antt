-- Lists of which elements change at their places.
use Rattle.std.specs.Prelude.{Vec, vec_len}
use Rattle.std.specs.Vec.{with_items}
use Rattle.std.proofs.lemmas.Bool.{cases_order}
use Rattle.std.proofs.lemmas.List.{drop-append-le, drop-drop, drop_at, drop_min, with_items_is}
use Rattle.channel_set.proofs.Common.{arith, ◌≡◌, ◌≢◌, ◌+◌, ◌<◌, ◌≤◌, ◌⊎◌, inl, inr, ℕ, zero, suc, min, drop, refl, sym, ap, subst, ◌∙◌, All, List, [], ◌∷◌, ◌++◌, get_or, length, length-set, slice_get, slice_set, Some, AllZip, flat_map, cases_eq, same_Some, get_or_from_slice_get, slice_get-get_or, slice_get_within, Has, map}

-- what holds of each that is there
pub all-of : {X : Type 0} (P : X → Type 0) (xs : List X) → ((k : ℕ) (x : X) → slice_get xs k ≡ Some x → P x) → All P xs
all-of P xs each k d less = each k (get_or xs k d) (slice_get-get_or xs k d less)

-- the element within a list
pub record At {X : Type 0} (xs : List X) (i : ℕ) : Type 0 where
  pub it : X
  pub stands : slice_get xs i ≡ Some it

pub at-within : {X : Type 0} (xs : List X) (i : ℕ) → i < length xs → At xs i
at-within [] i less = absurd (omega (arith, less))
at-within (x ∷ xs) zero less = record { it = x; stands = refl }
at-within (x ∷ xs) (suc i) less = let rest = at-within xs i (omega (arith, less)) in record { it = rest.it; stands = rest.stands }

pub get-set_same : {X : Type 0} (xs : List X) (i : ℕ) (y : X) → i < length xs → slice_get (slice_set xs i y) i ≡ Some y
get-set_same [] i y less = absurd (omega (arith, less))
get-set_same (x ∷ xs) zero y less = refl
get-set_same (x ∷ xs) (suc i) y less = get-set_same xs i y (omega (arith, less))

pub get-set_other : {X : Type 0} (xs : List X) (i j : ℕ) (y : X) → j ≢ i → slice_get (slice_set xs i y) j ≡ slice_get xs j
get-set_other [] i j y apart = refl
get-set_other (x ∷ xs) zero zero y apart = absurd (apart refl)
get-set_other (x ∷ xs) zero (suc j) y apart = refl
get-set_other (x ∷ xs) (suc i) zero y apart = refl
get-set_other (x ∷ xs) (suc i) (suc j) y apart = get-set_other xs i j y (λ e. apart (ap suc e))

-- what stands in a list after one element was set
pub set-cases : {X : Type 0} (xs : List X) (i : ℕ) (y : X) (j : ℕ) (z : X) → slice_get (slice_set xs i y) j ≡ Some z → ((j ≡ i) × (y ≡ z)) ⊎ ((j ≢ i) × (slice_get xs j ≡ Some z))
set-cases xs i y j z at = elim (cases_eq j i) [
  | inl e ↦
      let here = ap (slice_get (slice_set xs i y)) (sym e) ∙ at in
      let less : i < length xs = omega (arith, slice_get_within (slice_set xs i y) i z here, length-set xs i y) in
      inl (e, same_Some y z (sym (get-set_same xs i y less) ∙ here))
  | inr apart ↦ inr (apart, sym (get-set_other xs i j y apart) ∙ at)
]

-- Lists whose elements are related place by place.
module _ {X : Type 0} (R : X → X → Type 0) where
  -- the element that stood at a place
  pub record Was (xs : List X) (j : ℕ) (y : X) : Type 0 where
    pub old : X
    pub stood : slice_get xs j ≡ Some old
    pub related : R old y

  pub zip-was : (xs ys : List X) (j : ℕ) (y : X) → AllZip R xs ys → slice_get ys j ≡ Some y → Was xs j y
  zip-was [] [] j y zip at = absurd cc
  zip-was [] (b ∷ ys) j y zip at = absurd zip
  zip-was (a ∷ xs) [] j y zip at = absurd zip
  zip-was (a ∷ xs) (b ∷ ys) zero y zip at = record { old = a; stood = refl; related = subst (R a) (same_Some b y at) zip.0 }
  zip-was (a ∷ xs) (b ∷ ys) (suc j) y zip at = let was = zip-was xs ys j y zip.1 at in record { old = was.old; stood = was.stood; related = was.related }

  pub zip-size : (xs ys : List X) → AllZip R xs ys → length ys ≡ length xs
  zip-size [] [] zip = refl
  zip-size [] (b ∷ ys) zip = absurd zip
  zip-size (a ∷ xs) [] zip = absurd zip
  zip-size (a ∷ xs) (b ∷ ys) zip = ap suc (zip-size xs ys zip.1)

  pub zip-of : (xs ys : List X) → length ys ≡ length xs → ((j : ℕ) (x y : X) → slice_get xs j ≡ Some x → slice_get ys j ≡ Some y → R x y) → AllZip R xs ys
  zip-of [] [] size each = tt
  zip-of [] (b ∷ ys) size each = absurd (omega (arith, size))
  zip-of (a ∷ xs) [] size each = absurd (omega (arith, size))
  zip-of (a ∷ xs) (b ∷ ys) size each = (each zero a b refl refl, zip-of xs ys (omega (arith, size)) (λ j x y at there. each (suc j) x y at there))

  -- one element is another now
  pub zip-set : (xs : List X) (i : ℕ) (x y : X) → ((j : ℕ) (z : X) → slice_get xs j ≡ Some z → R z z) → slice_get xs i ≡ Some x → R x y → AllZip R xs (slice_set xs i y)
  zip-set xs i x y same at related = zip-of xs (slice_set xs i y) (length-set xs i y) (λ j a b stood stands. elim (set-cases xs i y j b stands) [
    | inl here ↦ subst (R a) here.1 (subst (λ z. R z y) (same_Some x a (sym at ∙ ap (slice_get xs) (sym here.0) ∙ stood)) related)
    | inr else ↦ subst (R a) (same_Some a b (sym stood ∙ else.1)) (same j a stood)
  ])

  -- So many of the elements are related to what they were, and the others are as they were.
  pub record Moved (i : ℕ) (xs ys : List X) : Type 0 where
    pub size : length ys ≡ length xs
    pub done : (j : ℕ) (x y : X) → j < i → slice_get xs j ≡ Some x → slice_get ys j ≡ Some y → R x y
    pub left : (j : ℕ) → i ≤ j → slice_get ys j ≡ slice_get xs j

  pub moved-none : (xs : List X) → Moved 0 xs xs
  moved-none xs = record { size = refl; done = λ j x y less. absurd (omega (arith, less)); left = λ j less. refl }

  pub moved-more : (i : ℕ) (xs ys : List X) (x y : X) → Moved i xs ys → slice_get ys i ≡ Some x → R x y → Moved (i + 1) xs (slice_set ys i y)
  moved-more i xs ys x y moved at related = record {
    size = length-set ys i y ∙ moved.size;
    done = λ j a b less stood stands. elim (set-cases ys i y j b stands) [
      | inl here ↦ subst (R a) here.1 (subst (λ z. R z y) (same_Some x a (sym at ∙ moved.left i (omega arith) ∙ ap (slice_get xs) (sym here.0) ∙ stood)) related)
      | inr else ↦ moved.done j a b (omega (arith, less, else.0)) stood else.1
    ];
    left = λ j less. get-set_other ys i j y (λ e. absurd (omega (arith, less, e))) ∙ moved.left j (omega (arith, less));
  }

  pub moved-all : (i : ℕ) (xs ys : List X) → length xs ≤ i → Moved i xs ys → AllZip R xs ys
  moved-all i xs ys all moved = zip-of xs ys moved.size (λ j x y at there. moved.done j x y (omega (arith, all, slice_get_within xs j x at)) at there)

-- a weaker relation
pub zip-weaker : {X : Type 0} (R S : X → X → Type 0) (xs ys : List X) → ((j : ℕ) (x y : X) → slice_get xs j ≡ Some x → R x y → S x y) → AllZip R xs ys → AllZip S xs ys
zip-weaker R S [] [] weaker zip = tt
zip-weaker R S [] (b ∷ ys) weaker zip = zip
zip-weaker R S (a ∷ xs) [] weaker zip = zip
zip-weaker R S (a ∷ xs) (b ∷ ys) weaker zip = (weaker zero a b refl zip.0, zip-weaker R S xs ys (λ j x y at. weaker (suc j) x y at) zip.1)

-- each element is what a function makes of it
pub zip-map : {X : Type 0} (f : X → X) (xs ys : List X) → AllZip (λ x y. y ≡ f x) xs ys → ys ≡ map f xs
zip-map f [] [] zip = refl
zip-map f [] (b ∷ ys) zip = absurd zip
zip-map f (a ∷ xs) [] zip = absurd zip
zip-map {X} f (a ∷ xs) (b ∷ ys) zip = ap (λ (x : X). x ∷ ys) zip.0 ∙ ap (λ (zs : List X). f a ∷ zs) (zip-map f xs ys zip.1)

-- what a loop made of the slice of a vector is what the vector has then
pub moved-vec : {X Z : Type 0} (R : X → X → Type 0) (v : Vec X Z) (was now : List X) (i : ℕ) → was ≡ v.items → length was ≡ vec_len v → length was ≤ i → Moved R i was now → AllZip R v.items (with_items v now).items
moved-vec R v was now i is len all moved =
    subst (λ xs. AllZip R xs (with_items v now).items) is
    (subst (AllZip R was) (sym (with_items_is v now (moved.size ∙ len))) (moved-all R i was now all moved))

-- where each has the same pile, all together have; and where none has any, there is none
pub piles-same : {X A : Type 0} (f : X → List A) (xs ys : List X) → AllZip (λ x y. f y ≡ f x) xs ys → flat_map f ys ≡ flat_map f xs
piles-same f [] [] zip = refl
piles-same f [] (b ∷ ys) zip = absurd zip
piles-same f (a ∷ xs) [] zip = absurd zip
piles-same f (a ∷ xs) (b ∷ ys) zip = ap (λ zs. zs ++ flat_map f ys) zip.0 ∙ ap (λ zs. f a ++ zs) (piles-same f xs ys zip.1)

pub piles-none : {X A : Type 0} (f : X → List A) (xs : List X) → ((j : ℕ) (x : X) → slice_get xs j ≡ Some x → f x ≡ []) → flat_map f xs ≡ []
piles-none f [] none = refl
piles-none f (x ∷ xs) none = ap (λ zs. zs ++ flat_map f xs) (none zero x refl) ∙ piles-none f xs (λ j y at. none (suc j) y at)

-- what holds of each holds of one
pub all-at : {X : Type 0} (P : X → Type 0) (xs : List X) (x : X) → All P xs → Has x xs → P x
all-at P xs x all (k, at) = subst P (get_or_from_slice_get xs k x x at) (all k x (slice_get_within xs k x at))

pub map-same : {X Y : Type 0} (f g : X → Y) (xs : List X) → ((x : X) → f x ≡ g x) → map f xs ≡ map g xs
map-same f g [] same = refl
map-same f g (x ∷ xs) same = ap (λ y. y ∷ map f xs) (same x) ∙ ap (λ ys. g x ∷ ys) (map-same f g xs same)

-- So many of the elements are related to what they were, then one in a weaker way, and the others are as they were.
pub moved-last : {X : Type 0} (R S : X → X → Type 0) (i : ℕ) (xs ys : List X) (x y : X) → ((a b : X) → R a b → S a b) → ((a : X) → S a a) → Moved R i xs ys → slice_get ys i ≡ Some x → S x y → AllZip S xs (slice_set ys i y)
moved-last R S i xs ys x y weaker same moved at related = zip-of S xs (slice_set ys i y) (length-set ys i y ∙ moved.size) (λ j a b stood stands. elim (set-cases ys i y j b stands) [
  | inl here ↦ subst (S a) here.1 (subst (λ z. S z y) (same_Some x a (sym at ∙ moved.left i (omega arith) ∙ ap (slice_get xs) (sym here.0) ∙ stood)) related)
  | inr else ↦ elim (cases_order j i) [
    | inl e ↦ absurd (else.0 e)
    | inr (inl below) ↦ weaker a b (moved.done j a b below stood else.1)
    | inr (inr above) ↦ subst (S a) (same_Some a b (sym stood ∙ sym (moved.left j (omega (arith, above))) ∙ else.1)) (same a)
  ]
])

-- The piles of the first lists are gone, of one so many of the first elements, and the others are as they were.
pub record AreTaken {X A : Type 0} (f : X → List A) (k gone : ℕ) (xs ys : List X) : Type 0 where
  pub size : length ys ≡ length xs
  pub none : (j : ℕ) (y : X) → j < k → slice_get ys j ≡ Some y → f y ≡ []
  pub cut : (x y : X) → slice_get xs k ≡ Some x → slice_get ys k ≡ Some y → f y ≡ drop gone (f x)
  pub left : (j : ℕ) (x y : X) → k < j → slice_get xs j ≡ Some x → slice_get ys j ≡ Some y → f y ≡ f x

-- how many elements are gone then
abbrev pub taken-count : {X A : Type 0} → (X → List A) → ℕ → ℕ → List X → ℕ
taken-count f k gone [] = 0
taken-count f zero gone (x ∷ xs) = min gone (length (f x))
taken-count f (suc k) gone (x ∷ xs) = length (f x) + taken-count f k gone xs

pub piles-taken : {X A : Type 0} (f : X → List A) (k gone : ℕ) (xs ys : List X) → AreTaken f k gone xs ys → flat_map f ys ≡ drop (taken-count f k gone xs) (flat_map f xs)
piles-taken f k gone [] [] taken = refl
piles-taken f k gone [] (y ∷ ys) taken = absurd (omega (arith, taken.size))
piles-taken f k gone (x ∷ xs) [] taken = absurd (omega (arith, taken.size))
piles-taken f zero gone (x ∷ xs) (y ∷ ys) taken =
    let n = min gone (length (f x)) in
    let rest = piles-same f xs ys (zip-of (λ x y. f y ≡ f x) xs ys (omega (arith, taken.size)) (λ j a b stood stands. taken.left (suc j) a b (omega arith) stood stands)) in
    ap (λ zs. zs ++ flat_map f ys) (taken.cut x y refl refl ∙ sym (drop_min gone (f x))) ∙ ap (λ zs. drop n (f x) ++ zs) rest ∙ sym (drop-append-le n (f x) (flat_map f xs) (omega arith))
piles-taken f (suc k) gone (x ∷ xs) (y ∷ ys) taken =
    let m = taken-count f k gone xs in
    let is = piles-taken f k gone xs ys (record {
      size = omega (arith, taken.size);
      none = λ j b less stands. taken.none (suc j) b (omega (arith, less)) stands;
      cut = λ a b stood stands. taken.cut a b stood stands;
      left = λ j a b less stood stands. taken.left (suc j) a b (omega (arith, less)) stood stands;
    }) in
    ap (λ zs. zs ++ flat_map f ys) (taken.none zero y (omega arith) refl) ∙ is ∙ ap (drop m) (sym (drop_at (f x) (flat_map f xs) (length (f x)) refl)) ∙ drop-drop m (length (f x)) (f x ++ flat_map f xs)

-- where all piles together are none, each is none
pub none-of : {X A : Type 0} (f : X → List A) (xs : List X) (i : ℕ) (x : X) → slice_get xs i ≡ Some x → flat_map f xs ≡ [] → f x ≡ []
none-of f [] i x at none = absurd cc
none-of f (y ∷ xs) zero x at none = ap f (sym (same_Some y x at)) ∙ front (f y) (flat_map f xs) none
  where
    front : {A : Type 0} (xs ys : List A) → xs ++ ys ≡ [] → xs ≡ []
    front [] ys none = refl
    front (x ∷ xs) ys none = absurd cc
none-of f (y ∷ xs) (suc i) x at none = none-of f xs i x at (back (f y) (flat_map f xs) none)
  where
    back : {A : Type 0} (xs ys : List A) → xs ++ ys ≡ [] → ys ≡ []
    back [] ys none = none
    back (x ∷ xs) ys none = absurd cc
