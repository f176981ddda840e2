-- Lists out of which an element is taken, where those before it move up, or those behind it down.
use Rattle.std.proofs.Common.{◌≡◌, ℕ, suc, ◌+◌, ◌-◌, ◌<◌, ◌≤◌, List, ◌++◌, sym, ap, ◌∙◌, refl, arith, take, drop, length}
use Rattle.std.proofs.Math.Seq.{drop-append_seam}
use Rattle.std.proofs.lemmas.List.{append_assoc, drop-append-le, drop-drop, drop-take, length-take-le}
use Rattle.std.specs.List.{copy_within, remove}

-- what lies behind a front
behind : {X : Type 0} (k : ℕ) (xs ys : List X) → k ≤ length xs → drop k (take k xs ++ ys) ≡ ys
behind k xs ys few = ap (λ (n : ℕ). drop n (take k xs ++ ys)) (sym (length-take-le k xs few)) ∙ drop-append_seam (take k xs) ys

pub taken_out : {X : Type 0} (xs : List X) (start place : ℕ) → start + place < length xs →
    drop (start + 1) (copy_within xs start (start + place) (start + 1)) ≡ remove (drop start xs) place
taken_out xs start place within =
    let size : start + place - start ≡ place = omega arith in
    let next : start + 1 + place ≡ start + suc place = omega arith in
    rw (append_assoc (take (start + 1) xs) (take (start + place - start) (drop start xs)) (drop (start + 1 + (start + place - start)) xs), behind (start + 1) xs _ (omega (arith, within)), size, next, drop-drop (suc place) start xs) refl

pub removed_behind : {X : Type 0} (xs : List X) (start place : ℕ) → start + place < length xs → drop start (remove xs (start + place)) ≡ remove (drop start xs) place
removed_behind xs start place within =
    let front = length-take-le (start + place) xs (omega (arith, within)) in
    let next : suc (start + place) ≡ start + suc place = omega arith in
    rw (drop-append-le start (take (start + place) xs) (drop (suc (start + place)) xs) (omega (arith, front)), drop-take start place xs, next, drop-drop (suc place) start xs) refl
