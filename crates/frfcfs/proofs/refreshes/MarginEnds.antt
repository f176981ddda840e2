-- The margin before the first command, and what it leaves to a drain and to each rank's REF.
use Rattle.std.proofs.Common.{ℕ, ◌+◌, ◌*◌, ◌<◌, ◌⊎◌, List, [], IsTrue, inl, inr, arith}
use Rattle.frfcfs.proofs.Common.{AllClosed, Checked, IsLawful, KeepsMargin, MayClose, MayRefresh, PreAll, Stamped, close_of, entry_of, floor, greatest, is_asleep, last_clock, last_ref, ref_count, with_command}
use Rattle.std.proofs.Math.Bool.{or-false}
use Rattle.ddr4_timing.proofs.FloorLemmas.{is_asleep_push}
use Rattle.frfcfs.proofs.refreshes.OffersInTime.{IsUp, close_due, first_offer, ref_due, refresh-lt}
use Rattle.frfcfs.proofs.refreshes.OwnRefreshes.{after_close}
use Rattle.frfcfs.proofs.refreshes.RefreshCounts.{commands_before-lt, last_clock_push}
use Rattle.frfcfs.proofs.refreshes.RowsClosed.{closed_or, closed_after}

pub new_keeps : (c : Checked) → KeepsMargin c []
unfolding floor greatest ref_count last_ref last_clock
new_keeps c rank within awake = record {
  refreshed = omega arith;
  past = omega arith;
  next = omega (arith, c.in_limits.t_rp.0);
  refresh = omega arith;
  close = omega arith;
  opened = λ _. omega (arith, c.in_limits.t_ras.0);
}

pub drain_has_time : (c : Checked) (list : List Stamped) (rank : ℕ) → KeepsMargin c list → rank < c.geometry.ranks → (¬ IsTrue (is_asleep rank list)) →
    last_clock list + 1 + close_of c.timing c.geometry + 2 * entry_of c.timing c.geometry + 4 * c.geometry.ranks < last_ref rank list + 9 * c.timing.t_refi
drain_has_time k list rank m within awake =
    let h = m rank within awake in
    omega (arith, h.next, commands_before-lt k list rank within, k.fits_entry, h.refreshed)

-- the REF of a rank that is awake can still go before its deadline

may_refresh : (c : Checked) (list : List Stamped) (rank : ℕ) → IsUp c list rank → AllClosed c.geometry rank list → MayRefresh c list rank
may_refresh c list rank u closed =
    let f = first_offer c list rank _ _ (ref_due c list rank u closed) in
    (f.0, f.1, omega (arith, f.2, refresh-lt c list rank u.within, u.time.refreshed), f.3.lawful)

may_close : (c : Checked) (list : List Stamped) (rank : ℕ) → IsUp c list rank → (¬ AllClosed c.geometry rank list) → MayClose c list rank
may_close c list rank u some =
    let f = first_offer c list rank _ _ (close_due c list rank u some) in
    let x : Stamped = record { clock = f.0; cmd = PreAll rank } in
    let up : IsUp c (with_command list f.0 (PreAll rank)) rank = record {
      lawful = f.3.lawful;
      within = u.within;
      awake = rw (is_asleep_push rank list x, or-false (is_asleep rank list)) u.awake;
      time = rw (last_clock_push list x) (after_close c list f.0 rank u f.1 f.2);
    } in
    (f.0, f.1, f.3.lawful, may_refresh c (with_command list f.0 (PreAll rank)) rank up (closed_after c.geometry rank f.0 list))

pub refresh_in_time : (c : Checked) (list : List Stamped) (rank : ℕ) → KeepsMargin c list → IsLawful c list → rank < c.geometry.ranks → (¬ IsTrue (is_asleep rank list)) → MayRefresh c list rank ⊎ MayClose c list rank
refresh_in_time k list rank m lawful within awake =
    let u : IsUp k list rank = record { lawful = lawful; within = within; awake = awake; time = m rank within awake } in
    elim (closed_or k.geometry rank list) [
      | inl closed ↦ inl (may_refresh k list rank u closed)
      | inr some ↦ inr (may_close k list rank u some)
    ]
