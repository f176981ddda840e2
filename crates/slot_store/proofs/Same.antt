-- What a slot says depends on its own bytes alone.
use Rattle.std.proofs.lemmas.List.{drop-drop}
use Rattle.slot_store.specs.Slots.{slot_state, slot_with}
use Rattle.slot_store.proofs.Common.{ℕ, ◌*◌, ◌+◌, ◌-◌, ◌<◌, ◌∙◌, ◌≡◌, ◌≤◌, List, Slot, ap, arith, body_in, drop, get_or, get_or-drop, get_or-take, length, length-drop, length-take, lines_in, page_in, refl, same_number_lists, slot_size, start_of, suc, sym, take, zero}

-- two rows have the same bytes from here on, n of them
pub record Agree (from n : ℕ) (xs ys : List ℕ) : Type 0 where
  pub size : length ys ≡ length xs
  pub each : (k : ℕ) → from ≤ k → k < from + n → get_or ys k 0 ≡ get_or xs k 0

pub part_same : (from n m at : ℕ) (xs ys : List ℕ) → Agree from n xs ys → from ≤ at → at + m ≤ from + n → take m (drop at ys) ≡ take m (drop at xs)
part_same from n m at xs ys a least most =
    same_number_lists (take m (drop at ys)) (take m (drop at xs))
    (omega (arith, length-take m (drop at ys), length-take m (drop at xs), length-drop at xs, length-drop at ys, a.size))
    (λ k less.
    let small : k < m = omega (arith, length-take m (drop at ys)) in
    get_or-take m (drop at ys) k 0 small ∙ get_or-drop at ys k 0 ∙ a.each (at + k) (omega arith) (omega arith)
    ∙ sym (get_or-take m (drop at xs) k 0 small ∙ get_or-drop at xs k 0))

pub lines_same : (from n count at : ℕ) (xs ys : List ℕ) → Agree from n xs ys → from ≤ at → at + 64 * count ≤ from + n → lines_in count (drop at ys) ≡ lines_in count (drop at xs)
lines_same from n zero at xs ys a least most = refl
lines_same from n (suc count) at xs ys a least most =
    let first : take 64 (drop at ys) ≡ take 64 (drop at xs) = part_same from n 64 at xs ys a least (omega arith) in
    let rest : lines_in count (drop (at + 64) ys) ≡ lines_in count (drop (at + 64) xs) = lines_same from n count (at + 64) xs ys a (omega arith) (omega arith) in
    let d1 : drop 64 (drop at ys) ≡ drop (at + 64) ys = drop-drop 64 at ys in
    let d2 : drop 64 (drop at xs) ≡ drop (at + 64) xs = drop-drop 64 at xs in
    cc

-- a slot is untouched where its bytes are
pub state_same : (lines : ℕ) (slot : Slot) (xs ys : List ℕ) → Agree (start_of lines slot) (slot_size lines) xs ys → slot_state lines slot ys ≡ slot_state lines slot xs
unfolding slot_state
state_same lines slot xs ys a =
    let page : page_in lines slot ys ≡ page_in lines slot xs = part_same (start_of lines slot) (slot_size lines) (start_of lines slot + 4096 - start_of lines slot) (start_of lines slot) xs ys a (omega arith) (omega arith) in
    let body : body_in lines slot ys ≡ body_in lines slot xs = lines_same (start_of lines slot) (slot_size lines) lines (start_of lines slot + 4096) xs ys a (omega arith) (omega arith) in
    ap (λ (p : List ℕ). slot_with lines p (body_in lines slot ys)) page ∙ ap (λ (b : List (List ℕ)). slot_with lines (page_in lines slot xs) b) body
