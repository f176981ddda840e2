-- A line that is read early, a write that goes into the array early, and one more write.
use Rattle.std.proofs.Common.{◌≡◌, ◌≢◌, ℕ, zero, suc, ◌<◌, List, [], ◌∷◌, Bool, true, false, cond, filter, length, get_or, slice_get, remove, Option, Some, None, refl, sym, ap, ◌∙◌, arith, length-set, get_or-set_other, get_or-set_same}
use Rattle.std.proofs.lemmas.List.{set_comm}
use Rattle.line_memory.specs.Memory.{after, after_write}
use Rattle.wpq_core.specs.declared.queue.PendingWrite.{PendingWrite}
use Rattle.wpq_core.specs.Writes.{NoWriteNames, IsNewest, IsFirstOfItsLine}
use Rattle.wpq_core.specs.PendingMemory.{after_pending, data_or}

-- a line that no pending write names
after_pending-other : (array : List (List ℕ)) (writes : List PendingWrite) (line : ℕ) → NoWriteNames line writes → get_or (after_pending array writes) line [] ≡ get_or array line []
after_pending-other array [] line none = refl
after_pending-other array (x ∷ xs) line none =
    after_pending-other (after_write array x.write) xs line (λ k v s. none (suc k) v s)
    ∙ get_or-set_other array x.write.line line x.write.«data» [] (λ same. none zero x refl (sym same))

pub after_pending-line : (array : List (List ℕ)) (writes : List PendingWrite) (line : ℕ) (newest : Option (List ℕ)) → line < length array → IsNewest line writes newest
    → get_or (after_pending array writes) line [] ≡ data_or newest (get_or array line [])
after_pending-line array writes line None less none = after_pending-other array writes line none
after_pending-line array [] line (Some bytes) less newest = absurd cc
after_pending-line array (x ∷ xs) line (Some bytes) less (zero, w, at, named, has, after) =
    let same : x ≡ w = cc in
    after_pending-other (after_write array x.write) xs line (λ k v s. after (suc k) v (omega arith) s)
    ∙ rw (same, named, has) (get_or-set_same array line bytes [] less)
after_pending-line array (x ∷ xs) line (Some bytes) less (suc i, w, at, named, has, after) =
    after_pending-line (after_write array x.write) xs line (Some bytes) (let n = length-set array x.write.line x.write.«data» in omega (arith, less, n))
    (i, w, at, named, has, λ j v later s. after (suc j) v (omega (arith, later)) s)

-- of the writes that a test picks, one that it picks may go early
pub below-early : (f : PendingWrite → Bool) (array : List (List ℕ)) (writes : List PendingWrite) (i : ℕ) (w : PendingWrite) → slice_get writes i ≡ Some w → f w ≡ true → IsFirstOfItsLine writes i
    → after_pending (after_write array w.write) (filter f (remove writes i)) ≡ after_pending array (filter f writes)
below-early f array [] i w at picked first = absurd cc
below-early f array (x ∷ xs) zero w at picked first = let same : x ≡ w = cc in rw (same, picked) refl
below-early f array (x ∷ xs) (suc i) w at picked first =
    let rest = filter f xs in
    let left = filter f (remove xs i) in
    let apart : w.write.line ≢ x.write.line = λ same. first zero x w (omega arith) refl at (sym same) in
    let later = λ (lines : List (List ℕ)). below-early f lines xs i w at picked (λ j v u less s t. first (suc j) v u (omega (arith, less)) s t) in
    elim (f x) as (λ b. after_pending (after_write array w.write) (cond b (x ∷ left) left) ≡ after_pending array (cond b (x ∷ rest) rest)) [
      | true ↦ ap (λ lines. after_pending lines left) (set_comm array w.write.line x.write.line w.write.«data» x.write.«data» apart) ∙ later (after_write array x.write)
      | false ↦ later array
    ]

filter-all : (writes : List PendingWrite) → filter (λ _. true) writes ≡ writes
filter-all [] = refl
filter-all (x ∷ xs) = ap (λ rest. x ∷ rest) (filter-all xs)

pub after_pending-early : (array : List (List ℕ)) (writes : List PendingWrite) (i : ℕ) (w : PendingWrite) → slice_get writes i ≡ Some w → IsFirstOfItsLine writes i
    → after_pending (after_write array w.write) (remove writes i) ≡ after_pending array writes
after_pending-early array writes i w at first =
    ap (after_pending (after_write array w.write)) (sym (filter-all (remove writes i))) ∙ below-early (λ _. true) array writes i w at refl first ∙ ap (after_pending array) (filter-all writes)

pub length-after_pending : (array : List (List ℕ)) (writes : List PendingWrite) → length (after_pending array writes) ≡ length array
length-after_pending array [] = refl
length-after_pending array (x ∷ xs) = length-after_pending (after_write array x.write) xs ∙ length-set array x.write.line x.write.«data»
