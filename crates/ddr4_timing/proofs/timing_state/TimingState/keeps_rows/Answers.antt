use Rattle.std.proofs.Common.{refl}
use Rattle.ddr4_timing.proofs.timing_state.TimingState.keeps_rows.Goals as goal

pub returns-clause-rows : goal.returns-clause-rows
returns-clause-rows c list s =
    let asleep = rw c.rank.ensures at (c.rank-2.ensures list 0 s).asleep in
    let fits = c.fits_rows.ensures list s in
    (λ e. record { place = c.if-not-is_in_geometry.ensures.0 refl; awake = λ h. cc; rows = fits.0 e }, λ k. fits.1 k.rows)

pub returns-then-rank-clause-rows : goal.returns-then-rank-clause-rows
returns-then-rank-clause-rows c list s =
    let asleep = rw c.rank.ensures at (c.rank-2.ensures list 0 s).asleep in
    (λ e. absurd cc, λ k. absurd (k.awake cc))
