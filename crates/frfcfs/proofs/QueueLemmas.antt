-- Queues that grow, shrink and are held, and what their marks say.
use Rattle.std.proofs.Common.{◌≡◌, ◌≢◌, ℕ, ◌+◌, ◌-◌, ◌<◌, ◌≤◌, ◌↔◌, ◌⊎◌, List, [], ◌∷◌, ◌++◌, Bool, IsTrue, true, false, Option, Some, None, inl, inr, refl, sym, subst, ap, ◌∙◌, arith, map, take, drop, length, length-append, get_or, set, get_or-set_same, get_or-set_other, All, remove, slice_get}
use Rattle.std.proofs.Math.ListN.{get_or-append}
use Rattle.std.proofs.lemmas.Bool.{cases_eq, cases_order}
use Rattle.std.specs.List.{drop-map, take-map}
use Rattle.std.proofs.lemmas.Simd.{map-map}
use Rattle.std.proofs.lemmas.List.{get_or-map, get_or_default, get_or_push, length-map, length-set, map-append}
use Rattle.std.proofs.lemmas.List.Edits.{get_or-remove_above, get_or-remove_below, length-remove, map_over_more}
use Rattle.std.proofs.lemmas.List.Elements.{All-map, All-push}
use Rattle.std.proofs.lemmas.List.Quantifiers.{all_pairs_push, all_pairs_remove}
use Rattle.std.proofs.lemmas.Option.{slice_get_within, get_or_from_slice_get}
use Rattle.frfcfs.proofs.Common.{AreFirsts, AreInOrder, AreMarks, Geometry, IsFirst, IsFirstAt, IsWaiting, LiesIn, Pending, Waiting, held_by, is_held, marked_at}
use Rattle.frfcfs.proofs.Lists.{All-at}
use Rattle.request_notes.proofs.Stood.{get_or-stood, stood}

-- the lines of requests
abbrev pub lines : List Pending → List ℕ
lines pending = map (λ p. p.line) pending

pub line_at : (pending : List Pending) (i : ℕ) (p : Pending) → slice_get pending i ≡ Some p → get_or (lines pending) i 0 ≡ p.line
line_at pending i p at = get_or-map (λ (q : Pending). q.line) pending i p 0 (slice_get_within pending i p at) ∙ ap (λ (q : Pending). q.line) (get_or_from_slice_get pending i p p at)

-- a mark says whether its request is the first of its line

first_here : (pending : List Pending) (i : ℕ) (p : Pending) → AreInOrder pending → slice_get pending i ≡ Some p → (IsFirstAt (lines pending) i ↔ IsFirst pending p)
first_here pending i p order at =
    let within = slice_get_within pending i p at in
    let own = line_at pending i p at in (
      λ first k d less older same. grind (arith, first k, order i k d, get_or_from_slice_get pending i p d at, get_or-map (λ (q : Pending). q.line) pending k d 0 less, own),
      λ first j less same. grind (arith, first j p, order j i p less within, get_or_from_slice_get pending i p p at, get_or-map (λ (q : Pending). q.line) pending j p 0, own),
    )

pub firsts_marks : (g : Geometry) (pending : List Pending) (firsts : List Bool) → AreInOrder pending → All (λ p. LiesIn g p.place) pending → AreFirsts (lines pending) firsts → AreMarks g pending firsts
firsts_marks g pending firsts order places marks i p within at =
    let each = marks.each i (omega (arith, within, marks.size)) in
    let first = first_here pending i p order at in
    (All-at (λ q. LiesIn g q.place) pending i p places at, (λ t. first.0 (each.0 t), λ f. each.1 (first.1 f)))

-- one more at the end

pub request_push : (pending : List Pending) (p : Pending) (firsts : List Bool) (b : Bool) → AreFirsts (lines pending) firsts → (IsTrue b ↔ All (λ line. line ≢ p.line) (lines pending)) → AreFirsts (lines (pending ++ p ∷ [])) (firsts ++ b ∷ [])
request_push pending p firsts b marks none =
    rw (map-append (λ (q : Pending). q.line) pending (p ∷ [])) (record {
      size = omega (arith, marks.size, length-append (lines pending) (p.line ∷ []), length-append firsts (b ∷ []));
      each = each;
    })
  where
    here : IsTrue b ↔ ((j : ℕ) → j < length (lines pending) → get_or (lines pending) j 0 ≢ p.line)
    here = (λ t j. none.0 t j 0, λ h. none.1 (λ j d l. subst (λ (n : ℕ). n ≢ p.line) (get_or_default (lines pending) j 0 d l) (h j l)))

    each : (i : ℕ) → i < length (lines pending ++ p.line ∷ []) → (IsTrue (get_or (firsts ++ b ∷ []) i false) ↔ IsFirstAt (lines pending ++ p.line ∷ []) i)
    each i within = grind (arith, marks.size, marks.each i, here, length-append, get_or-append, get_or_push)

-- one taken out, and the next one of its line marked

still_first : (xs : List ℕ) (i k : ℕ) → i < length xs → IsFirstAt xs (stood i k) → IsFirstAt (remove xs i) k
still_first xs i k within first = grind (arith, get_or-stood xs i k 0 within, λ (j : ℕ). get_or-stood xs i j 0 within)

-- one of another line than the one that went
was_first : (xs : List ℕ) (i k : ℕ) → i < length xs → get_or xs i 0 ≢ get_or xs (stood i k) 0 → IsFirstAt (remove xs i) k → IsFirstAt xs (stood i k)
was_first xs i k within other first j l same =
    let at_k = get_or-stood xs i k 0 within in
    elim (cases_order j i) [
      | inl at ↦ absurd (other (ap (λ n. get_or xs n 0) (sym at) ∙ same))
      | inr (inl below) ↦ first j (grind (arith, l, below)) (get_or-remove_below xs i 0 j below within ∙ same ∙ sym at_k)
      | inr (inr above) ↦ first (j - 1) (grind (arith, l, above)) (get_or-remove_above xs i 0 (j - 1) (omega (arith, above)) within ∙ ap (λ n. get_or xs n 0) (omega (arith, above)) ∙ same ∙ sym at_k)
    ]

-- what the place of a line's oldest request says of the lines
pub record IsOldestAt (line : ℕ) (xs : List ℕ) (place : Option ℕ) : Type 0 where
  pub here : (m : ℕ) → place ≡ Some m → get_or xs m 0 ≡ line
  pub upto : (k : ℕ) → k < length xs → get_or xs k 0 ≡ line → (m : ℕ) × (place ≡ Some m) × (m ≤ k)

-- the first ones now are those that were, and the oldest of the line that went
first_now : (xs : List ℕ) (i k : ℕ) (place : Option ℕ) → i < length xs → k < length (remove xs i) → IsOldestAt (get_or xs i 0) (remove xs i) place → (IsFirstAt (remove xs i) k ↔ (IsFirstAt xs (stood i k) ⊎ (place ≡ Some k)))
first_now xs i k place within less oldest = (
  λ first. elim (cases_eq (get_or (remove xs i) k 0) (get_or xs i 0)) [
    | inl same ↦ let (m, is, le) = oldest.upto k less same in inr (grind (arith, is, le, same, first m, oldest.here m is))
    | inr other ↦ inl (was_first xs i k within (λ same. other (get_or-stood xs i k 0 within ∙ sym same)) first)
  ],
  λ h. elim h [
    | inl first ↦ still_first xs i k within first
    | inr is ↦ λ j l same. let (m, at, le) = oldest.upto j (omega (arith, l, less)) (same ∙ oldest.here k is) in let e : m ≡ k = cc in absurd (omega (arith, e, le, l))
  ],
)

marked_now : (firsts : List Bool) (k : ℕ) (place : Option ℕ) → k < length firsts → (IsTrue (get_or (marked_at place firsts) k false) ↔ (IsTrue (get_or firsts k false) ⊎ (place ≡ Some k)))
marked_now firsts k None within = grind arith
marked_now firsts k (Some m) within = grind (arith, get_or-set_same firsts m true false, get_or-set_other firsts m k true false)

length-marked : (place : Option ℕ) (firsts : List Bool) → length (marked_at place firsts) ≡ length firsts
length-marked None firsts = refl
length-marked (Some m) firsts = length-set firsts m true

firsts_take : (xs : List ℕ) (firsts : List Bool) (i : ℕ) (place : Option ℕ) → AreFirsts xs firsts → i < length xs → IsOldestAt (get_or xs i 0) (remove xs i) place → AreFirsts (remove xs i) (marked_at place (remove firsts i))
firsts_take xs firsts i place marks within oldest =
    let size = marks.size in
    let shorter = length-remove firsts i (omega (arith, size, within)) in
    let left = length-remove xs i within in
    record {
      size = omega (arith, length-marked place (remove firsts i), shorter, left, size);
      each = λ k l.
          let marked = marked_now (remove firsts i) k place (omega (arith, l, shorter, left, size)) in
          let first = first_now xs i k place within l oldest in
          let each = marks.each (stood i k) (grind (arith, l, left)) in
          grind (arith, marked, first, each, get_or-stood firsts i k false (omega (arith, size, within)));
    }

pub lines_remove : (pending : List Pending) (i : ℕ) → lines (remove pending i) ≡ remove (lines pending) i
lines_remove pending i = simp (map-append, take-map, drop-map)

pub request_take : (pending : List Pending) (firsts new : List Bool) (i line : ℕ) (place : Option ℕ) → AreFirsts (lines pending) firsts → i < length pending → get_or (lines pending) i 0 ≡ line →
    IsOldestAt line (lines (remove pending i)) place → new ≡ marked_at place (remove firsts i) → AreFirsts (lines (remove pending i)) new
request_take pending firsts new i line place marks within at oldest is =
    let left = lines_remove pending i in
    rw (left, is) (firsts_take (lines pending) firsts i place marks (omega (arith, within, length-map pending (λ (q : Pending). q.line))) (rw (at, ← left) oldest))

-- what is true of a queue

pub waiting_push : (w : Waiting) (p : Pending) → IsWaiting w → p.seq ≡ w.next → length w.requests < w.most → IsWaiting (record { most = w.most; next = w.next + 1; requests = w.requests ++ p ∷ [] })
waiting_push w p is seq room = record {
  order = all_pairs_push (λ q r. q.seq < r.seq) w.requests p is.order (λ k d l. let b = is.before k d l in omega (arith, b, seq));
  before = All-push (λ q. q.seq < w.next + 1) w.requests p (λ k d l. let b = is.before k d l in omega (arith, b)) (omega (arith, seq));
  few = (let n = length-append w.requests (p ∷ []) in omega (arith, n, room));
}

All-remove : {X : Type 0} (P : X → Type 0) (xs : List X) (i : ℕ) → i < length xs → All P xs → All P (remove xs i)
All-remove P xs i within all k d less = rw (get_or-stood xs i k d within) (all (stood i k) d (grind (arith, less, length-remove xs i within)))

pub waiting_take : (w : Waiting) (i : ℕ) → IsWaiting w → i < length w.requests → IsWaiting (record w { requests = remove w.requests i })
waiting_take w i is within = record {
  order = all_pairs_remove (λ q r. q.seq < r.seq) w.requests i within is.order;
  before = All-remove (λ q. q.seq < w.next) w.requests i within is.before;
  few = (let n = length-remove w.requests i within in let f = is.few in omega (arith, n, f));
}

order_held : (hold : Option ℕ) (pending : List Pending) → AreInOrder pending → AreInOrder (map (held_by hold) pending)
order_held hold pending order i j d = grind (arith, order i j d, get_or-map (held_by hold) pending i d d, get_or-map (held_by hold) pending j d d, length-map pending (held_by hold))

-- a loop that holds each request
pub hold_more : (hold : Option ℕ) (xs ys : List Pending) (i : ℕ) (p : Pending) (b : Bool) → i < length xs → ys ≡ map (held_by hold) (take i xs) ++ drop i xs → p ≡ get_or ys i p → b ≡ is_held hold p.kind p.number →
    set ys i (record p { held = b }) ≡ map (held_by hold) (take (i + 1) xs) ++ drop (i + 1) xs
hold_more hold xs ys i p b within is read held = rw held (map_over_more (held_by hold) xs ys i p within is read)

pub lines_held : (hold : Option ℕ) (pending : List Pending) → lines (map (held_by hold) pending) ≡ lines pending
lines_held hold pending = map-map (λ p. p.line) (held_by hold) pending

pub waiting_held : (w : Waiting) (hold : Option ℕ) → IsWaiting w → IsWaiting (record w { requests = map (held_by hold) w.requests })
waiting_held w hold is = record {
  order = order_held hold w.requests is.order;
  before = All-map (λ q. q.seq < w.next) (held_by hold) w.requests is.before;
  few = (let n = length-map w.requests (held_by hold) in let f = is.few in omega (arith, n, f));
}
