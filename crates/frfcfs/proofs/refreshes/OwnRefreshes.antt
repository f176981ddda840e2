-- The time that a command leaves a rank: any command before the rank is in lead, and its own PREA and REF.
use Rattle.std.proofs.Common.{◌≡◌, ℕ, ◌+◌, ◌*◌, ◌≤◌, ◌<◌, false, List, arith, refl, max}
use Rattle.std.proofs.lemmas.Bool.{eqb-false}
use Rattle.frfcfs.proofs.Common.{AllClosed, Checked, Command, HasTime, IsLawful, PreAll, Ref, Stamped, Timing, close_clock, is_ref_of, last_clock, lead_clock, most_gap, ref_count, refresh_clock, row_time, with_command}
use Rattle.ddr4_timing.proofs.Bounds.{most_gap-PreAll, most_gap-Ref, most_gap-Ref_calm, most_gap-Ref_other, most_gap-close}
use Rattle.ddr4_timing.proofs.FloorLemmas.{floor_push}
use Rattle.ddr4_timing.proofs.Ready.{ready_lawful, refresh_lawful}
use Rattle.frfcfs.proofs.refreshes.IntervalFits.{fits}
use Rattle.frfcfs.proofs.refreshes.OffersInTime.{IsUp, refresh-lt}
use Rattle.frfcfs.proofs.refreshes.RefreshCounts.{before_more, commands_before-lt, count_next, count_same, last_next, last_same, lead_same}
use Rattle.frfcfs.proofs.refreshes.RowsClosed.{closed_after, closed_push}

-- any command but its REF
pub calm_time : (c : Checked) (list : List Stamped) (k rank : ℕ) (x : Command) → IsUp c list rank → last_clock list ≤ k → is_ref_of rank x ≡ false → k + max 1 (most_gap c.timing x (Ref rank)) ≤ refresh_clock c (with_command list k x) rank →
    k + most_gap c.timing x (PreAll rank) ≤ max (k + 1) (lead_clock c.timing list rank + row_time c.timing) → ((¬ AllClosed c.geometry rank (with_command list k x)) → k + 1 ≤ close_clock c (with_command list k x) rank) → HasTime c (with_command list k x) k rank
calm_time c list k rank x u from e refresh close opened =
    let lead = lead_same c.timing rank k list x e in record {
      refreshed = rw (count_same rank k list x e, last_same rank k list x e) u.time.refreshed;
      past = omega (arith, last_same rank k list x e, u.time.past, from);
      next = omega (arith, refresh);
      refresh = omega (arith, floor_push c.timing list (record { clock = k; cmd = x }) (Ref rank), u.time.refresh, before_more c rank k list x e, lead, refresh);
      close = omega (arith, floor_push c.timing list (record { clock = k; cmd = x }) (PreAll rank), u.time.close, from, close, lead);
      opened = opened;
    }

-- no command but its REF holds its REF up for longer than a precharge
calm_gap : (t : Timing) (rank : ℕ) (x : Command) → is_ref_of rank x ≡ false → most_gap t x (Ref rank) ≤ max 1 t.t_rp
calm_gap t rank (Ref r) e = omega (arith, most_gap-Ref_other t (Ref r) rank (eqb-false r rank e))
calm_gap t rank x e = most_gap-Ref_calm t x rank refl

-- before the rank comes into lead
pub early : (c : Checked) (list : List Stamped) (k rank : ℕ) (x : Command) → IsUp c list rank → last_clock list ≤ k → is_ref_of rank x ≡ false → k < lead_clock c.timing list rank → HasTime c (with_command list k x) k rank
early c list k rank x u from e l =
    let lead = lead_same c.timing rank k list x e in
    calm_time c list k rank x u from e (omega (arith, l, lead, calm_gap c.timing rank x e)) (omega (arith, l, most_gap-PreAll c.timing x rank c.fits_faw)) (λ _. omega (arith, l, lead))

-- its own PREA and REF

pub after_close : (c : Checked) (list : List Stamped) (k rank : ℕ) → IsUp c list rank → last_clock list ≤ k → k ≤ close_clock c list rank → HasTime c (with_command list k (PreAll rank)) k rank
after_close c list k rank u from clock =
    calm_time c list k rank (PreAll rank) u from refl
    (omega (arith, clock, lead_same c.timing rank k list (PreAll rank) refl, before_more c rank k list (PreAll rank) refl, calm_gap c.timing rank (PreAll rank) refl, c.in_limits.t_rp.0))
    (omega (arith, most_gap-close c.timing rank rank)) (λ some. absurd (some (closed_after c.geometry rank k list)))

pub after_ref : (c : Checked) (list : List Stamped) (k rank : ℕ) → IsUp c list rank → IsLawful c (with_command list k (Ref rank)) → last_clock list ≤ k → k ≤ refresh_clock c list rank → HasTime c (with_command list k (Ref rank)) k rank
after_ref c list k rank u lawful from clock =
    let f = fits c in
    let x : Stamped = record { clock = k; cmd = Ref rank } in
    let small = refresh-lt c list rank u.within in
    let lead : lead_clock c.timing (with_command list k (Ref rank)) rank ≡ (ref_count rank list + 9) * c.timing.t_refi = rw (count_next rank k list) (omega arith) in
    record {
      refreshed = rw (count_next rank k list, last_next rank k list) ((refresh_lawful c list x lawful).not_early refl);
      past = omega (arith, last_next rank k list);
      next = omega (arith, clock, small, lead);
      refresh = omega (arith, floor_push c.timing list x (Ref rank), u.time.refresh, clock, most_gap-Ref c.timing (Ref rank) rank c.fits_faw, f.refresh, f.row, commands_before-lt c list rank u.within, c.in_limits.t_ras.0, lead);
      close = omega (arith, floor_push c.timing list x (PreAll rank), u.time.close, from, most_gap-PreAll c.timing (Ref rank) rank c.fits_faw, clock, small, lead);
      opened = λ some. absurd (some (closed_push c.geometry rank list x refl (ready_lawful c list x lawful).rows.rows));
    }
