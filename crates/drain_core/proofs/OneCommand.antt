-- One more command of a drain.
use Rattle.std.proofs.Common.{◌≡◌, ℕ, zero, suc, ◌<◌, Bool, true, false, cond, List, [], ◌∷◌, ◌++◌, Option, Some, None, arith, refl, subst, ap, ◌∙◌, inl, inr}
use Rattle.drain_core.proofs.Common.{Act, AllClosed, Checked, Command, Geometry, IsLawful, MayGo, Pre, PreAll, Rd, Ref}
use Rattle.drain_core.proofs.Common.{Sre, Stamped, Wr, cases_lt, is_ref, is_ref_of, is_some, last_ref, last_ref_push}
use Rattle.drain_core.proofs.Common.{open_row, or_cases, or_parts}
use Rattle.drain_core.specs.Drain.{Progress, next_clock, with_earliest, any_below, has_open_bank}
use Rattle.drain_core.proofs.LawfulLists.{lawful_next}

pub with_earliest-lawful : (c : Checked) (p : Progress) (cmd : Command) → IsLawful c p.list → MayGo c p cmd → IsLawful c (with_earliest c.timing cmd p).list
unfolding with_earliest
with_earliest-lawful c p cmd lawful m = lawful_next c p.list (next_clock c.timing cmd p) cmd lawful m.rows (omega arith) m.in_time

-- none but REF counts as one

ref_of_calm : (rank : ℕ) (cmd : Command) → is_ref cmd ≡ false → is_ref_of rank cmd ≡ false
ref_of_calm rank (Act at row) e = refl
ref_of_calm rank (Rd at column) e = refl
ref_of_calm rank (Wr at column) e = refl
ref_of_calm rank (Pre at) e = refl
ref_of_calm rank (PreAll r) e = refl
ref_of_calm rank (Ref r) e = absurd cc
ref_of_calm rank (Sre r) e = refl

pub last_ref-calm : (rank : ℕ) (list : List Stamped) (x : Stamped) → is_ref x.cmd ≡ false → last_ref rank (list ++ x ∷ []) ≡ last_ref rank list
last_ref-calm rank list x e = last_ref_push rank list x ∙ ap (λ (b : Bool). cond b x.clock (last_ref rank list)) (ref_of_calm rank x.cmd e)

-- which ranks have an open bank

none_below : (test : ℕ → Bool) (n k : ℕ) → any_below test n ≡ false → k < n → test k ≡ false
none_below test zero k e h = absurd (omega arith)
none_below test (suc n) k e h =
    let parts = or_parts (any_below test n) (test n) e in
    elim (cases_lt k n) [
      | inl l ↦ none_below test n k parts.0 l
      | inr g ↦ let same : n ≡ k = omega arith in subst (λ (j : ℕ). test j ≡ false) same parts.1
    ]

some_below : (test : ℕ → Bool) (n : ℕ) → any_below test n ≡ true → ((k : ℕ) → k < n → test k ≡ false) → ⊥
some_below test zero e h = absurd cc
some_below test (suc n) e h =
    elim (or_cases (any_below test n) (test n) e) [
      | inl front ↦ some_below test n front (λ k l. h k (omega arith))
      | inr last ↦ let none = h n (omega arith) in absurd cc
    ]

is_none : (row : Option ℕ) → is_some row ≡ false → row ≡ None
is_none None e = refl
is_none (Some row) e = absurd cc

not_some : (row : Option ℕ) → row ≡ None → is_some row ≡ false
not_some row e = ap is_some e

pub has_open_bank-false : (g : Geometry) (rank : ℕ) (list : List Stamped) → has_open_bank g rank list ≡ false → AllClosed g rank list
unfolding has_open_bank
has_open_bank-false g rank list e group bank l m =
    let groups = none_below (λ group. any_below (λ bank. is_some (open_row (record { rank = rank; group = group; bank = bank }) list)) g.banks) g.groups group e l in
    is_none (open_row (record { rank = rank; group = group; bank = bank }) list) (none_below (λ bank. is_some (open_row (record { rank = rank; group = group; bank = bank }) list)) g.banks bank groups m)

any_false : (test : ℕ → Bool) (n : ℕ) → ((k : ℕ) → k < n → test k ≡ false) → any_below test n ≡ false
any_false test zero h = refl
any_false test (suc n) h =
    let front = any_false test n (λ k l. h k (omega arith)) in
    let last = h n (omega arith) in
    rw (front, last) refl

pub has_open_bank-true : (g : Geometry) (rank : ℕ) (list : List Stamped) → has_open_bank g rank list ≡ true → ¬ AllClosed g rank list
unfolding has_open_bank
has_open_bank-true g rank list e closed =
    some_below (λ group. any_below (λ bank. is_some (open_row (record { rank = rank; group = group; bank = bank }) list)) g.banks) g.groups e
    (λ group l. any_false (λ bank. is_some (open_row (record { rank = rank; group = group; bank = bank }) list)) g.banks
    (λ bank m. not_some (open_row (record { rank = rank; group = group; bank = bank }) list) (closed group bank l m)))
