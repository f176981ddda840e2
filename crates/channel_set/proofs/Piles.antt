-- Lists put behind one another, where one of them changes.
use Rattle.std.proofs.lemmas.List.Edits.{insert-append_left, insert-append_right, insert_end}
use Rattle.std.proofs.lemmas.List.Elements.{filter-append}
use Rattle.std.proofs.lemmas.List.Sums.{length-filter, sum_by-cons}
use Rattle.std.proofs.lemmas.List.Folds.{list_any-append, list_any_at}
use Rattle.channel_set.proofs.Common.{arith, ◌≡◌, ◌≢◌, ◌||◌, ◌+◌, ◌-◌, ◌<◌, ◌≤◌, ◌⊎◌, inl, inr, ℕ, zero, suc, Bool, true, false, cond, eqb, refl, sym, ap, subst, ◌∙◌, List, [], ◌∷◌, ◌++◌, count_by, drop, filter, insert, length, remove, slice_get, slice_set, Some, flat_map, list_any, eq-eqb, ne_eqb, length-append, get_or_from_slice_get, same_Some, slice_get_within, Goes, Has, Joins, Remain}

-- one element has another value
abbrev pub Becomes : {X : Type 0} → X → X → List X → List X → Type 0
Becomes x y old new = (place : ℕ) × (slice_get old place ≡ Some x) × (new ≡ slice_set old place y)

joins-behind : {X : Type 0} (w : X) (ps old new : List X) → Joins w old new → Joins w (ps ++ old) (ps ++ new)
joins-behind w [] old new j = j
joins-behind w (p ∷ ps) old new j =
    let (k, within, is) = joins-behind w ps old new j in
    (suc k, omega (arith, within), ap (λ xs. p ∷ xs) is)

joins-before : {X : Type 0} (w : X) (rs old new : List X) → Joins w old new → Joins w (old ++ rs) (new ++ rs)
joins-before w rs old new (k, within, is) =
    (k, omega (arith, within, length-append old rs), ap (λ xs. xs ++ rs) is ∙ sym (insert-append_left old rs k w within))

goes-behind : {X : Type 0} (w : X) (ps old new : List X) → Goes w old new → Goes w (ps ++ old) (ps ++ new)
goes-behind w [] old new g = g
goes-behind w (p ∷ ps) old new g =
    let (k, there, is) = goes-behind w ps old new g in
    (suc k, there, ap (λ xs. p ∷ xs) is)

goes-before : {X : Type 0} (w : X) (rs old new : List X) → Goes w old new → Goes w (old ++ rs) (new ++ rs)
goes-before w rs [] new (k, there, is) = absurd cc
goes-before w rs (x ∷ old) new (zero, there, is) = (zero, there, ap (λ xs. xs ++ rs) is)
goes-before w rs (x ∷ old) new (suc k, there, is) =
    let (j, here, left) = goes-before w rs old (remove old k) (k, there, refl) in
    (suc j, here, ap (λ xs. xs ++ rs) is ∙ ap (λ xs. x ∷ xs) left)

becomes-behind : {X : Type 0} (w v : X) (ps old new : List X) → Becomes w v old new → Becomes w v (ps ++ old) (ps ++ new)
becomes-behind w v [] old new g = g
becomes-behind w v (p ∷ ps) old new g =
    let (k, there, is) = becomes-behind w v ps old new g in
    (suc k, there, ap (λ xs. p ∷ xs) is)

becomes-before : {X : Type 0} (w v : X) (rs old new : List X) → Becomes w v old new → Becomes w v (old ++ rs) (new ++ rs)
becomes-before w v rs [] new (k, there, is) = absurd cc
becomes-before w v rs (x ∷ old) new (zero, there, is) = (zero, there, ap (λ xs. xs ++ rs) is)
becomes-before w v rs (x ∷ old) new (suc k, there, is) =
    let (j, here, left) = becomes-before w v rs old (slice_set old k v) (k, there, refl) in
    (suc j, here, ap (λ xs. xs ++ rs) is ∙ ap (λ xs. x ∷ xs) left)

-- Where one pile changes by a relation that piles before and behind don't disturb, all piles together change by it.
one-changes : {X A : Type 0} (R : List A → List A → Type 0) (f : X → List A)
    → ((ps old new : List A) → R old new → R (ps ++ old) (ps ++ new)) → ((rs old new : List A) → R old new → R (old ++ rs) (new ++ rs))
    → (xs : List X) (i : ℕ) (x y : X) → slice_get xs i ≡ Some x → R (f x) (f y) → R (flat_map f xs) (flat_map f (slice_set xs i y))
one-changes R f behind before [] i x y at r = absurd cc
one-changes R f behind before (x' ∷ xs) zero x y at r = before (flat_map f xs) (f x') (f y) (subst (λ z. R (f z) (f y)) (sym (same_Some x' x at)) r)
one-changes R f behind before (x' ∷ xs) (suc i) x y at r = behind (f x') (flat_map f xs) (flat_map f (slice_set xs i y)) (one-changes R f behind before xs i x y at r)

pub one-joins : {X A : Type 0} (w : A) (f : X → List A) (xs : List X) (i : ℕ) (x y : X) → slice_get xs i ≡ Some x → Joins w (f x) (f y) → Joins w (flat_map f xs) (flat_map f (slice_set xs i y))
one-joins w f = one-changes (Joins w) f (joins-behind w) (joins-before w)

pub one-goes : {X A : Type 0} (w : A) (f : X → List A) (xs : List X) (i : ℕ) (x y : X) → slice_get xs i ≡ Some x → Goes w (f x) (f y) → Goes w (flat_map f xs) (flat_map f (slice_set xs i y))
one-goes w f = one-changes (Goes w) f (goes-behind w) (goes-before w)

pub one-becomes : {X A : Type 0} (w v : A) (f : X → List A) (xs : List X) (i : ℕ) (x y : X) → slice_get xs i ≡ Some x → Becomes w v (f x) (f y) → Becomes w v (flat_map f xs) (flat_map f (slice_set xs i y))
one-becomes w v f = one-changes (Becomes w v) f (becomes-behind w v) (becomes-before w v)

pub one-stays : {X A : Type 0} (f : X → List A) (xs : List X) (i : ℕ) (x y : X) → slice_get xs i ≡ Some x → f y ≡ f x → flat_map f (slice_set xs i y) ≡ flat_map f xs
one-stays f xs i x y at same = one-changes (λ old new. new ≡ old) f (λ ps old new e. ap (λ zs. ps ++ zs) e) (λ rs old new e. ap (λ zs. zs ++ rs) e) xs i x y at same

-- one of the piles passes
pub any-pile : {X A : Type 0} (p : A → Bool) (f : X → List A) (xs : List X) → list_any p (flat_map f xs) ≡ list_any (λ x. list_any p (f x)) xs
any-pile p f [] = refl
any-pile p f (x ∷ xs) = list_any-append p (f x) (flat_map f xs) ∙ ap (λ b. list_any p (f x) || b) (any-pile p f xs)

pub has-behind : {X : Type 0} (x : X) (ps xs : List X) → Has x xs → Has x (ps ++ xs)
has-behind x [] xs has = has
has-behind x (p ∷ ps) xs has = let (k, at) = has-behind x ps xs has in (suc k, at)

pub has-before : {X : Type 0} (x : X) (xs rs : List X) → Has x xs → Has x (xs ++ rs)
has-before x [] rs (k, at) = absurd cc
has-before x (y ∷ xs) rs (zero, at) = (zero, at)
has-before x (y ∷ xs) rs (suc k, at) = let (j, there) = has-before x xs rs (k, at) in (suc j, there)

-- what stands in a pile stands in all
pub has-pile : {X A : Type 0} (f : X → List A) (xs : List X) (i : ℕ) (x : X) (a : A) → slice_get xs i ≡ Some x → Has a (f x) → Has a (flat_map f xs)
has-pile f [] i x a at has = absurd cc
has-pile f (y ∷ xs) zero x a at has = has-before a (f y) (flat_map f xs) (subst (λ z. Has a (f z)) (sym (same_Some y x at)) has)
has-pile f (y ∷ xs) (suc i) x a at has = has-behind a (f y) (flat_map f xs) (has-pile f xs i x a at has)

pub has-either : {X : Type 0} (x : X) (xs ys : List X) → Has x (xs ++ ys) → Has x xs ⊎ Has x ys
has-either x [] ys has = inr has
has-either x (y ∷ xs) ys (zero, at) = inl (zero, at)
has-either x (y ∷ xs) ys (suc k, at) = elim (has-either x xs ys (k, at)) [
  | inl first ↦ inl (suc first.0, first.1)
  | inr second ↦ inr second
]

-- the pile in which something stands
pub record InPile {X A : Type 0} (f : X → List A) (xs : List X) (a : A) : Type 0 where
  pub place : ℕ
  pub pile : X
  pub at : slice_get xs place ≡ Some pile
  pub has : Has a (f pile)

pub from-pile : {X A : Type 0} (f : X → List A) (xs : List X) (a : A) → Has a (flat_map f xs) → InPile f xs a
from-pile f [] a (k, at) = absurd cc
from-pile f (x ∷ xs) a has = elim (has-either a (f x) (flat_map f xs) has) [
  | inl first ↦ record { place = zero; pile = x; at = refl; has = first }
  | inr second ↦ let rest = from-pile f xs a second in record { place = suc rest.place; pile = rest.pile; at = rest.at; has = rest.has }
]

-- what goes leaves no other, and what becomes another one's place either
before_removal : {X : Type 0} (xs : List X) (i : ℕ) (y : X) → Has y (remove xs i) → Has y xs
before_removal [] i y (k, at) = absurd (none i k y at)
  where
    none : {X : Type 0} (i k : ℕ) (y : X) → slice_get (remove {X = X} [] i) k ≡ Some y → ⊥
    none zero k y at = cc
    none (suc i) k y at = cc
before_removal (x ∷ xs) zero y (k, at) = (suc k, at)
before_removal (x ∷ xs) (suc i) y (zero, at) = (zero, at)
before_removal (x ∷ xs) (suc i) y (suc k, at) = let (j, there) = before_removal xs i y (k, at) in (suc j, there)

pub remain-goes : {X : Type 0} (x : X) (old new : List X) → Goes x old new → Remain old new
remain-goes x old new (i, stands, is) y has = before_removal old i y (subst (Has y) is has)

has-dropped : {X : Type 0} (n : ℕ) (xs : List X) (y : X) → Has y (drop n xs) → Has y xs
has-dropped zero xs y has = has
has-dropped (suc n) [] y has = has
has-dropped (suc n) (x ∷ xs) y has = has-behind y (x ∷ []) xs (has-dropped n xs y has)

pub remain-dropped : {X : Type 0} (n : ℕ) (old new : List X) → new ≡ drop n old → Remain old new
remain-dropped n old new is y has = has-dropped n old y (subst (Has y) is has)

pub remain-same : {X : Type 0} (old new : List X) → new ≡ old → Remain old new
remain-same old new is y has = subst (Has y) is has

-- a test that some pass
pub any-has : {X : Type 0} (p : X → Bool) (xs : List X) (x : X) → Has x xs → p x ≡ true → list_any p xs ≡ true
any-has p xs x (k, at) passes =
    list_any_at p xs k x (slice_get_within xs k x at) (ap p (get_or_from_slice_get xs k x x at) ∙ passes)

pub record Found {X : Type 0} (p : X → Bool) (xs : List X) : Type 0 where
  pub it : X
  pub has : Has it xs
  pub passes : p it ≡ true

pub any-found : {X : Type 0} (p : X → Bool) (xs : List X) → list_any p xs ≡ true → Found p xs
any-found p [] some = absurd (let bad : ⊥ = cc in bad)
any-found p (x ∷ xs) some = by (p x) refl some (any-found p xs)
  where
    by : (b : Bool) → p x ≡ b → (b || list_any p xs) ≡ true → (list_any p xs ≡ true → Found p xs) → Found p (x ∷ xs)
    by true is some rest = record { it = x; has = (zero, refl); passes = is }
    by false is some rest = let found = rest some in record { it = found.it; has = (suc found.has.0, found.has.1); passes = found.passes }

-- how many pass a test that tells one pile from the others

count-both : {A : Type 0} (p : A → Bool) (xs ys : List A) → count_by p (xs ++ ys) ≡ count_by p xs + count_by p ys
count-both p xs ys = omega (arith, length-filter p (xs ++ ys), ap length (filter-append p xs ys), length-append (filter p xs) (filter p ys), length-filter p xs, length-filter p ys)

count-each : {A : Type 0} (p : A → Bool) (b : Bool) (xs : List A) → ((a : A) → Has a xs → p a ≡ b) → count_by p xs ≡ cond b (length xs) 0
count-each p b [] each = none b
  where
    none : (b : Bool) → zero ≡ cond b zero zero
    none true = refl
    none false = refl
count-each p b (x ∷ xs) each = more (p x) b (count_by p (x ∷ xs)) (count_by p xs) (length xs) (each x (zero, refl)) (sum_by-cons (λ a. cond (p a) 1 0) x xs) (count-each p b xs (λ a (k, at). each a (suc k, at)))
  where
    more : (c b : Bool) (m n l : ℕ) → c ≡ b → m ≡ cond c 1 0 + n → n ≡ cond b l 0 → m ≡ cond b (suc l) 0
    more true true m n l e is all = omega (arith, is, all)
    more false false m n l e is all = omega (arith, is, all)
    more true false m n l e is all = absurd (let bad : ⊥ = cc in bad)
    more false true m n l e is all = absurd (let bad : ⊥ = cc in bad)

-- where a test passes all of one pile and none of another, it counts that pile
count-one : {X A : Type 0} (test : A → Bool) (here : ℕ → Bool) (f : X → List A) (xs : List X) (i : ℕ) (x : X) → here i ≡ true → ((j : ℕ) → j ≢ i → here j ≡ false) → slice_get xs i ≡ Some x
    → ((j : ℕ) (y : X) (a : A) → slice_get xs j ≡ Some y → Has a (f y) → test a ≡ here j) → count_by test (flat_map f xs) ≡ length (f x)
count-one test here f [] i x at_i else at tells = absurd cc
count-one test here f (x' ∷ xs) zero x at_i else at tells =
    let same : x' ≡ x = same_Some x' x at in
    let first = count-each test true (f x') (λ a has. tells zero x' a refl has ∙ at_i) in
    let rest = count-each test false (flat_map f xs) (λ a has. let pile = from-pile f xs a has in tells (suc pile.place) pile.pile a pile.at pile.has ∙ else (suc pile.place) (λ e. absurd (omega (arith, e)))) in
    count-both test (f x') (flat_map f xs) ∙ omega (arith, first, rest, ap (λ z. length (f z)) same)
count-one test here f (x' ∷ xs) (suc i) x at_i else at tells =
    let first = count-each test false (f x') (λ a has. tells zero x' a refl has ∙ else zero (λ e. absurd (omega (arith, e)))) in
    let rest = count-one test (λ j. here (suc j)) f xs i x at_i (λ j apart. else (suc j) (λ e. apart (omega (arith, e)))) at (λ j y a there has. tells (suc j) y a there has) in
    count-both test (f x') (flat_map f xs) ∙ omega (arith, first, rest)

pub count-on : {X A : Type 0} (test : A → Bool) (f : X → List A) (xs : List X) (i : ℕ) (x : X) → slice_get xs i ≡ Some x
    → ((j : ℕ) (y : X) (a : A) → slice_get xs j ≡ Some y → Has a (f y) → test a ≡ eqb j i) → count_by test (flat_map f xs) ≡ length (f x)
count-on test f xs i x at tells = count-one test (λ j. eqb j i) f xs i x (eq-eqb i i refl) (λ j apart. ne_eqb j i apart) at tells

-- What joins one pile at its end stands behind that pile and all piles before it, where a test tells these from the others.
pub one-behind : {X A : Type 0} (w : A) (test : A → Bool) (here : ℕ → Bool) (f : X → List A) (xs : List X) (i : ℕ) (x y : X) → ((j : ℕ) → j ≤ i → here j ≡ true) → ((j : ℕ) → i < j → here j ≡ false) → slice_get xs i ≡ Some x
    → f y ≡ f x ++ w ∷ [] → ((j : ℕ) (z : X) (a : A) → slice_get xs j ≡ Some z → Has a (f z) → test a ≡ here j) → flat_map f (slice_set xs i y) ≡ insert (flat_map f xs) (count_by test (flat_map f xs)) w
one-behind w test here f [] i x y upto past at ends tells = absurd cc
one-behind w test here f (x' ∷ xs) zero x y upto past at ends tells =
    let rest = flat_map f xs in
    let first : count_by test (f x') ≡ length (f x') = count-each test true (f x') (λ a has. tells zero x' a refl has ∙ upto zero (omega arith)) in
    let none : count_by test rest ≡ 0 = count-each test false rest (λ a has. let pile = from-pile f xs a has in tells (suc pile.place) pile.pile a pile.at pile.has ∙ past (suc pile.place) (omega arith)) in
    let count : count_by test (f x' ++ rest) ≡ length (f x') = count-both test (f x') rest ∙ omega (arith, first, none) in
    ap (λ ws. ws ++ rest) (ends ∙ ap (λ z. f z ++ w ∷ []) (sym (same_Some x' x at)) ∙ sym (insert_end (f x') w))
    ∙ sym (insert-append_left (f x') rest (length (f x')) w (omega arith))
    ∙ ap (λ n. insert (f x' ++ rest) n w) (sym count)
one-behind w test here f (x' ∷ xs) (suc i) x y upto past at ends tells =
    let rest = flat_map f xs in
    let n = count_by test rest in
    let first : count_by test (f x') ≡ length (f x') = count-each test true (f x') (λ a has. tells zero x' a refl has ∙ upto zero (omega arith)) in
    let later =
    one-behind w test (λ j. here (suc j)) f xs i x y (λ j less. upto (suc j) (omega (arith, less))) (λ j less. past (suc j) (omega (arith, less))) at ends (λ j z a there has. tells (suc j) z a there has) in
    let count : count_by test (f x' ++ rest) ≡ length (f x') + n = count-both test (f x') rest ∙ omega (arith, first) in
    let left : length (f x') + n - length (f x') ≡ n = omega arith in
    ap (λ ws. f x' ++ ws) later
    ∙ ap (λ k. f x' ++ insert rest k w) (sym left)
    ∙ sym (insert-append_right (f x') rest (length (f x')) (length (f x') + n) w refl (omega arith))
    ∙ ap (λ k. insert (f x' ++ rest) k w) (sym count)
