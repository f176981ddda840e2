-- The clock of a list of commands, and how many commands there can be by a clock.
use Rattle.std.proofs.Common.{◌≡◌, ℕ, zero, suc, ◌+◌, ◌-◌, ◌≤◌, List, [], ◌∷◌, length, slice_get, get_or, Some, refl, sym, ap, subst, ◌∙◌, arith}
use Rattle.std.proofs.lemmas.Option.{slice_get_within, slice_get-get_or}
use Rattle.std.proofs.lemmas.List.{length_push}
use Rattle.circular_buffer.proofs.Places.{cut_end, slice_get-last, slice_get-take}
use Rattle.frfcfs.proofs.refreshes.RefreshCounts.{last_clock_push}
use Rattle.chan_core.proofs.Common.{Checked, IsLawful, Order, Stamped, gap, last_clock, pair_gap}

-- the k-th command goes at clock k at the earliest
pub index-clock : (c : Checked) (list : List Stamped) → IsLawful c list → (k : ℕ) (x : Stamped) → slice_get list k ≡ Some x → k ≤ x.clock
unfolding gap pair_gap
index-clock c list lawful zero x at = omega arith
index-clock c list lawful (suc k) x at =
    let a = get_or list k x in
    let here : slice_get list k ≡ Some a = slice_get-get_or list k x (let w = slice_get_within list (suc k) x at in omega (arith, w)) in
    let later : 1 ≤ x.clock - a.clock = (lawful Order k (suc k) x at).pair a (slice_get-take (suc k) list k (omega arith) ∙ here) in
    omega (arith, index-clock c list lawful k a here, later)

-- there are no more commands than clocks up to the last one
pub few-commands : (c : Checked) (list : List Stamped) → IsLawful c list → length list ≤ last_clock list + 1
few-commands c [] lawful = omega arith
few-commands c (y ∷ ys) lawful =
    let (us, x, is) = cut_end (y ∷ ys) (omega arith) in
    let here : slice_get (y ∷ ys) (length us) ≡ Some x = subst (λ xs. slice_get xs (length us) ≡ Some x) (sym is) (slice_get-last us x (length us) refl) in
    omega (arith, index-clock c (y ∷ ys) lawful (length us) x here, ap last_clock is ∙ last_clock_push us x, ap length is, length_push us x)
