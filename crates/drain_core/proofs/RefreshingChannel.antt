-- The refreshes of an entry on a channel, rank by rank.
use Rattle.std.proofs.Common.{◌≡◌, ℕ, ◌+◌, ◌-◌, ◌*◌, ◌/◌, ◌^◌, ◌≤◌, ◌<◌, Bool, true, false, cond, arith, sym, ap, subst, ◌∙◌}
use Rattle.drain_core.proofs.Common.{AreAwake, AreClosed, ChannelState, Checked, CostNumbers, GoesNext, GoesTo, IsEarly}
use Rattle.drain_core.proofs.Common.{MayEnter, MayGo, Ref, StepEnd, max, nat_lt, progress_of, ref_count}
use Rattle.frfcfs.proofs.refreshes.IntervalFits.{fits}
use Rattle.drain_core.specs.Drain.{Progress, drain_start, next_clock, for_each_rank, rest_clock, owes_refresh, refresh_rank, after_refreshes, with_earliest}
use Rattle.drain_core.proofs.Parts.{at_mid, goes_then, goes_rested, next_rank, takes_checked}
use Rattle.drain_core.proofs.Refreshing.{IsRefreshing, refreshing_all, may_refresh, ref_clock}

-- so many ranks were seen to
abbrev pub refreshing_of : ChannelState → ℕ → ℕ → Progress
refreshing_of s clock rank = for_each_rank (refresh_rank s.checked.timing (progress_of s clock)) rank (progress_of s clock)

ref_early : (k p e rank r row d t : ℕ) → k ≡ p → p ≤ e + rank → rank < r → row + d + 2 * r ≤ t → t ≤ 1000000 → e < 2 ^ 63 - 2 ^ 31 → k < 2 ^ 63
ref_early k p e rank r row d t a h l m n o = omega arith

module _ (n : CostNumbers) (old mid : ChannelState) (clock : ℕ) (end : StepEnd) (rank : ℕ) (enter : MayEnter old clock) (goes : GoesTo n (refreshing_of old clock rank) 0 old mid end) where
  refreshing : rank ≤ old.checked.geometry.ranks → IsRefreshing old.checked (progress_of old clock) rank (refreshing_of old clock rank)
  refreshing within = refreshing_all old.checked (progress_of old clock) rank enter within

  -- what is owed is what was owed at the start
  same_owed : (b : Bool) → rank ≤ old.checked.geometry.ranks → owes_refresh mid.checked.timing mid.commands clock rank ≡ b → owes_refresh old.checked.timing old.commands clock rank ≡ b
  unfolding owes_refresh
  same_owed b within e =
      let t = old.checked.timing in
      let count = (refreshing within).counts rank (omega arith) in
      let list = ap (λ (q : Progress). ref_count rank q.list) goes.progress in
      ap (λ (count : ℕ). nat_lt 0 (clock / t.t_refi - count)) (sym (list ∙ count)) ∙ ap (λ (c : Checked). nat_lt 0 (clock / c.timing.t_refi - ref_count rank mid.commands)) (sym (takes_checked 0 old mid goes.takes)) ∙ e

  pub may_refresh_rank : rank < old.checked.geometry.ranks → owes_refresh mid.checked.timing mid.commands clock rank ≡ true → MayGo mid.checked (progress_of mid end.clock) (Ref rank)
  may_refresh_rank within owes =
      at_mid n (refreshing_of old clock rank) 0 old mid end goes (λ c p. MayGo c p (Ref rank))
      (may_refresh old.checked (progress_of old clock) rank (refreshing_of old clock rank) enter within (same_owed true (omega (arith, within)) owes) (refreshing (omega (arith, within))))

  pub refreshing_early : IsEarly clock → rank < old.checked.geometry.ranks → owes_refresh mid.checked.timing mid.commands clock rank ≡ true → next_clock mid.checked.timing (Ref rank) (progress_of mid end.clock) < 2 ^ 63
  refreshing_early early within owes =
      let c = old.checked in
      let i = refreshing (omega (arith, within)) in
      let at = ref_clock c (progress_of old clock) rank (refreshing_of old clock rank) (same_owed true (omega (arith, within)) owes) i in
      at_mid n (refreshing_of old clock rank) 0 old mid end goes (λ c p. next_clock c.timing (Ref rank) p < 2 ^ 63)
      (ref_early _ _ clock rank c.geometry.ranks _ c.timing.t_rp c.timing.t_refi at i.clock within (fits c).row c.in_limits.t_refi.1 early)

  step : (b : Bool) → rank < old.checked.geometry.ranks → owes_refresh mid.checked.timing mid.commands clock rank ≡ b → refreshing_of old clock (rank + 1) ≡ cond b (with_earliest old.checked.timing (Ref rank) (refreshing_of old clock rank)) (refreshing_of old clock rank)
  step b within e =
      let p = refreshing_of old clock rank in
      next_rank (refresh_rank old.checked.timing (progress_of old clock)) rank (progress_of old clock)
      ∙ ap (λ (b : Bool). cond b (with_earliest old.checked.timing (Ref rank) p) p) (same_owed b (omega (arith, within)) e)

  pub refreshing_owing_rank : (new : ChannelState) (after : StepEnd) → rank < old.checked.geometry.ranks → owes_refresh mid.checked.timing mid.commands clock rank ≡ true → GoesNext n (Ref rank) mid new end after → GoesTo n (refreshing_of old clock (rank + 1)) 0 old new after
  refreshing_owing_rank new after within owes on = subst (λ (p : Progress). GoesTo n p 0 old new after) (sym (step true within owes)) (goes_then n (refreshing_of old clock rank) 0 0 (Ref rank) old mid new end after (omega arith) goes on)

  pub refreshing_other_rank : rank < old.checked.geometry.ranks → owes_refresh mid.checked.timing mid.commands clock rank ≡ false → GoesTo n (refreshing_of old clock (rank + 1)) 0 old mid end
  refreshing_other_rank within none = subst (λ (p : Progress). GoesTo n p 0 old mid end) (sym (step false within none)) goes

  -- once all were seen to

  pub refreshing_awake : rank ≤ old.checked.geometry.ranks → AreAwake mid.checked mid.commands
  refreshing_awake within = at_mid n (refreshing_of old clock rank) 0 old mid end goes (λ c p. AreAwake c p.list) (refreshing within).awake

  pub refreshing_closed : rank ≤ old.checked.geometry.ranks → AreClosed mid.checked mid.commands
  refreshing_closed within = at_mid n (refreshing_of old clock rank) 0 old mid end goes (λ c p. AreClosed c p.list) (refreshing within).closed

  pub refreshing_start : rank ≤ old.checked.geometry.ranks → drain_start mid.commands ≤ end.clock
  refreshing_start within = at_mid n (refreshing_of old clock rank) 0 old mid end goes (λ c p. drain_start p.list ≤ p.clock) (refreshing within).later

  pub refreshing_rests : (rested : ℕ) → rank ≡ old.checked.geometry.ranks → rested ≡ max end.clock (rest_clock mid.checked.timing mid.commands) →
      GoesTo n (after_refreshes old.checked.timing old.checked.geometry (progress_of old clock)) 0 old mid (record { clock = rested; cost = end.cost })
  unfolding after_refreshes
  refreshing_rests rested e is = goes_rested n (refreshing_of old clock old.checked.geometry.ranks) 0 old mid end rested (subst (λ (r : ℕ). GoesTo n (refreshing_of old clock r) 0 old mid end) e goes) is
