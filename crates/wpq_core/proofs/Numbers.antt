-- Numbers that rise.
use Rattle.std.proofs.Common.{◌≡◌, ℕ, ◌+◌, ◌<◌, ◌≤◌, List, [], ◌∷◌, ◌++◌, true, false, length, length-append, remove, get_or, slice_get, Some, inl, inr, arith, ap, ◌∙◌, sym, ltb, ltb-true, lt-ltb}
use Rattle.std.proofs.lemmas.Bool.{cases_order, cases_lt}
use Rattle.std.proofs.lemmas.List.{get_or_append_left, get_or_push}
use Rattle.std.proofs.lemmas.List.Edits.{get_or-remove_above, get_or-remove_below, length-remove}
use Rattle.std.proofs.lemmas.Option.{get_or_from_slice_get, slice_get-get_or, slice_get_within}
use Rattle.std.specs.List.Sorted.{IsPartitionPoint}
use Rattle.wpq_core.specs.declared.queue.PendingWrite.{PendingWrite}
use Rattle.wpq_core.specs.Queue.{IsWriteQueue, Queue}
use Rattle.wpq_core.specs.Writes.{ComeBefore, NumbersRise}

-- a number is that of one pending write
pub NumbersRise-one : (writes : List PendingWrite) (i j : ℕ) (v w : PendingWrite) → NumbersRise writes → slice_get writes i ≡ Some v → slice_get writes j ≡ Some w → v.number ≡ w.number → i ≡ j
NumbersRise-one writes i j v w rise s t same = elim (cases_order i j) [
  | inl e ↦ e
  | inr (inl less) ↦ absurd (omega (arith, rise i j v w less s t, same))
  | inr (inr more) ↦ absurd (omega (arith, rise j i w v more t s, same))
]

module _ {X : Type 0} (n : X → ℕ) (xs : List X) (rise : (i j : ℕ) (x y : X) → i < j → slice_get xs i ≡ Some x → slice_get xs j ≡ Some y → n x < n y) where
  -- numbers that rise are those below a number and then the others
  pub rise_parted : (t i j : ℕ) (d : X) → i ≤ j → j < length xs → ltb (n (get_or xs j d)) t ≡ true → ltb (n (get_or xs i d)) t ≡ true
  rise_parted t i j d le within below =
      let less = ltb-true (n (get_or xs j d)) t below in
      elim (cases_lt i j) [
        | inl l ↦ let r = rise i j (get_or xs i d) (get_or xs j d) l (slice_get-get_or xs i d (omega (arith, l, within))) (slice_get-get_or xs j d within) in lt-ltb _ t (omega (arith, r, less))
        | inr g ↦ let same : i ≡ j = omega (arith, le, g) in rw same below
      ]

  -- only there a number that is looked for by halves may stand
  pub only_there : (t place j : ℕ) (y : X) → IsPartitionPoint (λ x. ltb (n x) t ≡ true) (λ x. ltb (n x) t ≡ false) xs place → slice_get xs j ≡ Some y → n y ≡ t → j ≡ place
  only_there t place j y point at is =
      let within = slice_get_within xs j y at in
      let own : n (get_or xs j y) ≡ t = ap n (get_or_from_slice_get xs j y y at) ∙ is in
      elim (cases_order j place) [
        | inl e ↦ e
        | inr (inl less) ↦ let b = ltb-true (n (get_or xs j y)) t (point.0 j y (omega arith) less) in absurd (omega (arith, b, own))
        | inr (inr more) ↦
            let first = get_or xs place y in
            let r = rise place j first y more (slice_get-get_or xs place y (omega (arith, more, within))) at in
            let b : ltb (n first) t ≡ true = lt-ltb (n first) t (omega (arith, r, is)) in
            let c : ltb (n first) t ≡ false = point.1 place y (omega arith) (omega (arith, more, within)) in
            absurd (cc (b, c))
      ]

-- a queue with one write more, and one less

pub queue_push : (q : Queue) (w : PendingWrite) → IsWriteQueue q → ComeBefore w.number q.writes → length q.writes < q.depth → IsWriteQueue (record q { writes = q.writes ++ w ∷ [] })
queue_push q w is before room =
    let more = length-append q.writes (w ∷ []) in
    record { rise = rise; few = omega (arith, more, room); least = is.least; most = is.most }
  where
    old : (k : ℕ) (v : PendingWrite) → k < length q.writes → slice_get (q.writes ++ w ∷ []) k ≡ Some v → slice_get q.writes k ≡ Some v
    old k v less at = slice_get-get_or q.writes k v less ∙ ap Some (sym (get_or_append_left q.writes (w ∷ []) v k less) ∙ get_or_from_slice_get (q.writes ++ w ∷ []) k v v at)

    rise : NumbersRise (q.writes ++ w ∷ [])
    rise i j u v less at there =
        let within = slice_get_within (q.writes ++ w ∷ []) j v there in
        let first = old i u (omega (arith, less, within, length-append q.writes (w ∷ []))) at in
        elim (cases_lt j (length q.writes)) [
          | inl l ↦ is.rise i j u v less first (old j v l there)
          | inr g ↦
              let end : length q.writes ≡ j = omega (arith, g, within, length-append q.writes (w ∷ [])) in
              let last : w ≡ v = sym (get_or_push q.writes w v j end) ∙ get_or_from_slice_get (q.writes ++ w ∷ []) j v v there in
              omega (arith, before.each i u first, ap (λ (x : PendingWrite). x.number) last)
        ]

pub queue_take : (q : Queue) (i : ℕ) → IsWriteQueue q → i < length q.writes → IsWriteQueue (record q { writes = remove q.writes i })
queue_take q i is within = record { rise = rise; few = omega (arith, length-remove q.writes i within, is.few); least = is.least; most = is.most }
  where
    below : (k : ℕ) (v : PendingWrite) → k < i → slice_get (remove q.writes i) k ≡ Some v → slice_get q.writes k ≡ Some v
    below k v less at = slice_get-get_or q.writes k v (omega (arith, less, within)) ∙ ap Some (sym (get_or-remove_below q.writes i v k less within) ∙ get_or_from_slice_get (remove q.writes i) k v v at)

    above : (k : ℕ) (v : PendingWrite) → i ≤ k → slice_get (remove q.writes i) k ≡ Some v → slice_get q.writes (k + 1) ≡ Some v
    above k v more at =
        let less = slice_get_within (remove q.writes i) k v at in
        slice_get-get_or q.writes (k + 1) v (omega (arith, less, length-remove q.writes i within)) ∙ ap Some (sym (get_or-remove_above q.writes i v k more within) ∙ get_or_from_slice_get (remove q.writes i) k v v at)

    rise : NumbersRise (remove q.writes i)
    rise a b u v less at there = elim (cases_lt b i) [
      | inl l ↦ is.rise a b u v less (below a u (omega (arith, less, l)) at) (below b v l there)
      | inr g ↦ elim (cases_lt a i) [
        | inl l ↦ is.rise a (b + 1) u v (omega (arith, less)) (below a u l at) (above b v g there)
        | inr h ↦ is.rise (a + 1) (b + 1) u v (omega (arith, less)) (above a u h at) (above b v g there)
      ]
    ]
