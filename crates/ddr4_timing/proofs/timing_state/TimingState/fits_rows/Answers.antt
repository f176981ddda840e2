use Rattle.std.proofs.Common.{inl, inr}
use Rattle.std.proofs.lemmas.Bool.{false_from_ne_true, iff_false, not-true, not_from_false}
use Rattle.ddr4_timing.proofs.timing_state.TimingState.fits_rows.Goals as goal

pub returns-in-PreAll : goal.returns-in-PreAll
returns-in-PreAll c list s =
    let h = c.all_closed.ensures list s in
    rw c.in-PreAll.is (λ e. iff_false h (not-true _ e), λ n. not_from_false _ (false_from_ne_true _ (λ e. n (h.0 e))))

pub returns-in-Ref : goal.returns-in-Ref
returns-in-Ref c list s = elim c.in-Ref.is [ inl e ↦ rw e (c.all_closed-in-Ref.ensures list s) | inr e ↦ rw e (c.all_closed-in-Ref.ensures list s) ]
