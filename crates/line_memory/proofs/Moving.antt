-- What a record tells once it was cut.
use Rattle.std.proofs.Common.{rules, ◌≡◌, ◌↔◌, ℕ, zero, suc, ◌+◌, ◌-◌, ◌<◌, ◌≤◌, false, List, [], ◌∷◌, length, take, drop, refl, sym, ap, ◌∙◌, arith, length-set}
use Rattle.std.specs.Prelude.{nat_lt, slice_get}
use Rattle.std.proofs.lemmas.List.{drop-drop, length-drop}
use Rattle.std.proofs.lemmas.List.Sums.{fold-append}
use Rattle.std.proofs.Math.Seq.{take-add}
use Rattle.line_memory.specs.declared.Write.{Write}
use Rattle.line_memory.specs.Memory.{after, after_write, memory_at}
use Rattle.line_memory.specs.History.{Recorded, IsSeenAt, TellsSameFrom, cut_at, recorded, write_at}

-- a memory has the same lines after writes
length-after : (memory : List (List ℕ)) (writes : List Write) → length (after memory writes) ≡ length memory
length-after memory [] = refl
length-after memory (w ∷ ws) = length-after (after_write memory w) ws ∙ length-set memory w.line w.«data»

get-drop : {A : Type 0} (n k : ℕ) (xs : List A) → slice_get (drop n xs) k ≡ slice_get xs (n + k)
get-drop zero k xs = ap (slice_get xs) (let e : k ≡ 0 + k = omega arith in e)
get-drop (suc n) k [] = refl
get-drop (suc n) k (x ∷ xs) = get-drop n k xs ∙ ap (slice_get (x ∷ xs)) (let e : suc (n + k) ≡ suc n + k = omega arith in e)

module _ (at : ℕ) (life : Recorded) (from : life.start ≤ at) where
  abbrev gone : ℕ
  gone = at - life.start

  same_memory : (n : ℕ) → at ≤ n → memory_at (cut_at at life).base at (cut_at at life).writes n ≡ memory_at life.base life.start life.writes n
  same_memory n more =
      sym (fold-append after_write life.base (take gone life.writes) (take (n - at) (drop gone life.writes)))
      ∙ ap (after life.base) (sym (take-add gone (n - at) life.writes))
      ∙ ap (λ (k : ℕ). after life.base (take k life.writes)) (let e : at - life.start + (n - at) ≡ n - life.start = omega (arith, from, more) in e)

  same_write : (n : ℕ) → at ≤ n → write_at at (cut_at at life).writes n ≡ write_at life.start life.writes n
  same_write n more =
      let old : nat_lt n life.start ≡ false = search rules in
      let new : nat_lt n at ≡ false = search rules in
      let place : at - life.start + (n - at) ≡ n - life.start = omega (arith, from, more) in
      rw (new, old) (get-drop gone (n - at) life.writes ∙ ap (slice_get life.writes) place)

  same_seen : at ≤ life.start + length life.writes → (line n : ℕ) → at ≤ n → IsSeenAt (cut_at at life) line n ↔ IsSeenAt life line n
  same_seen upto line n more =
      let lines = length-after life.base (take gone life.writes) in
      let rest = length-drop gone life.writes in (
        λ (s : IsSeenAt (cut_at at life) line n). seen_before line n lines rest more s.here s.most,
        λ (s : IsSeenAt life line n). seen_after line n lines rest more s.here s.most,
      )
    where
      seen_before : (line n : ℕ) → length (after life.base (take gone life.writes)) ≡ length life.base → length (drop gone life.writes) ≡ length life.writes - gone → at ≤ n
          → line < length (after life.base (take gone life.writes)) → n ≤ at + length (drop gone life.writes) → IsSeenAt life line n
      seen_before line n lines rest more here most =
          record { here = omega (arith, here, lines); least = omega (arith, from, more); most = omega (arith, most, rest, from, upto) }

      seen_after : (line n : ℕ) → length (after life.base (take gone life.writes)) ≡ length life.base → length (drop gone life.writes) ≡ length life.writes - gone → at ≤ n
          → line < length life.base → n ≤ life.start + length life.writes → IsSeenAt (cut_at at life) line n
      seen_after line n lines rest more here most =
          record { here = omega (arith, here, lines); least = more; most = omega (arith, most, rest, from, upto) }

pub told_the_same : (at : ℕ) (life : Recorded) → life.start ≤ at → at ≤ life.start + length life.writes → TellsSameFrom at life (cut_at at life)
told_the_same at life from upto = record {
  memory = same_memory at life from;
  accepted = same_write at life from;
  seen = same_seen at life from upto;
}

pub same_record : (base base2 : List (List ℕ)) (start : ℕ) (ws ws2 : List Write) (room room2 : ℕ) → base ≡ base2 → ws ≡ ws2 → room ≡ room2
    → recorded base start ws room ≡ recorded base2 start ws2 room2
same_record base base2 start ws ws2 room room2 b w r = rw (b, w, r) refl

-- two cuts, one behind the other, are the second one
pub cut_again : (life : Recorded) (first second : ℕ) → life.start ≤ first → first ≤ second → cut_at second (cut_at first life) ≡ cut_at second life
cut_again life first second from later =
    let place : first - life.start + (second - first) ≡ second - life.start = omega (arith, from, later) in
    same_record _ _ second _ _ life.room life.room (same_memory first life from second later)
    (drop-drop (second - first) (first - life.start) life.writes ∙ ap (λ (k : ℕ). drop k life.writes) place) refl

-- one more write has gone: what is to go yet, and what stays
pub one_less : (at n : ℕ) (base : List (List ℕ)) (w : Write) (old new : List Write) → n < at → old ≡ w ∷ new
    → after base (take (at - n) old) ≡ after (after_write base w) (take (at - (n + 1)) new)
one_less at n base w old new less first =
    let one : at - n ≡ suc (at - (n + 1)) = omega (arith, less) in
    ap (λ (ws : List Write). after base (take (at - n) ws)) first ∙ ap (λ (k : ℕ). after base (take k (w ∷ new))) one

pub one_off : (at n : ℕ) (w : Write) (old new : List Write) → n < at → old ≡ w ∷ new → drop (at - n) old ≡ drop (at - (n + 1)) new
one_off at n w old new less first =
    let one : at - n ≡ suc (at - (n + 1)) = omega (arith, less) in
    ap (drop (at - n)) first ∙ ap (λ (k : ℕ). drop k (w ∷ new)) one

-- all have gone
pub none_left : (at n : ℕ) (base : List (List ℕ)) (ws : List Write) → at ≤ n → after base (take (at - n) ws) ≡ base
none_left at n base ws done = let none : at - n ≡ 0 = omega (arith, done) in ap (λ (k : ℕ). after base (take k ws)) none

pub none_off : (at n : ℕ) (ws : List Write) → at ≤ n → drop (at - n) ws ≡ ws
none_off at n ws done = let none : at - n ≡ 0 = omega (arith, done) in ap (λ (k : ℕ). drop k ws) none
