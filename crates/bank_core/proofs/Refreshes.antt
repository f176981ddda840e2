-- No REF of a lawful list was pulled in.
use Rattle.std.proofs.Common.{◌≡◌, ℕ, ◌+◌, ◌*◌, ◌≤◌, Bool, true, false, cond, eqb, List, [], ◌∷◌, ◌++◌, append_assoc, length, IsTrue, arith, refl, sym, subst, eqb-true, append-nil}
use Rattle.std.proofs.lemmas.Bool.{and_parts}
use Rattle.std.proofs.Math.Seq.{take-append_seam}
use Rattle.bank_core.proofs.Common.{Geometry, IsLawfulIn, Stamped, Timing, is_ref, is_ref_of, last_ref, rank_of, ref_count}
use Rattle.ddr4_timing.proofs.FloorLemmas.{last_ref_push, ref_count_push}
use Rattle.ddr4_timing.proofs.Lawfulness.{IsLawful-take, refresh_lawful}

-- the least clock of as many refreshes is no later than the last one
abbrev KeepsPace : Timing → ℕ → List Stamped → Type 0
KeepsPace t rank list = ref_count rank list * t.t_refi ≤ last_ref rank list

pace : (b : Bool) (n t last clock : ℕ) → n * t ≤ last → (IsTrue b → (n + 1) * t ≤ clock) → (n + cond b 1 0) * t ≤ cond b clock last
pace true n t last clock before next = next refl
pace false n t last clock before next = omega (arith, before)

pace_on : (t : Timing) (g : Geometry) (rank : ℕ) (before after : List Stamped) → IsLawfulIn t g (before ++ after) → KeepsPace t rank before → KeepsPace t rank (before ++ after)
pace_on t g rank before [] lawful kept = rw (append-nil before) kept
pace_on t g rank before (x ∷ after) lawful kept =
    let on : (before ++ x ∷ []) ++ after ≡ before ++ x ∷ after = append_assoc before (x ∷ []) after in
    let whole = subst (IsLawfulIn t g) (sym on) lawful in
    let front = refresh_lawful t g before x (subst (IsLawfulIn t g) (take-append_seam (before ++ x ∷ []) after) (IsLawful-take t g _ (length (before ++ x ∷ [])) whole)) in
    let next = pace (is_ref_of rank x.cmd) (ref_count rank before) t.t_refi (last_ref rank before) x.clock kept (λ ref.
    let parts = and_parts (is_ref x.cmd) (eqb (rank_of x.cmd) rank) ref in
    rw (← eqb-true (rank_of x.cmd) rank parts.1) (front.not_early parts.0)) in
    subst (KeepsPace t rank) on (pace_on t g rank (before ++ x ∷ []) after whole (rw (ref_count_push, last_ref_push) next))

pub refreshes_keep_pace : (t : Timing) (g : Geometry) (rank : ℕ) (list : List Stamped) → IsLawfulIn t g list → ref_count rank list * t.t_refi ≤ last_ref rank list
unfolding ref_count last_ref
refreshes_keep_pace t g rank list lawful = pace_on t g rank [] list lawful (omega arith)
