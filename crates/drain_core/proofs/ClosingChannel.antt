-- The close step of a channel, rank by rank.
use Rattle.std.proofs.Common.{◌≡◌, ℕ, ◌+◌, ◌-◌, ◌*◌, ◌^◌, ◌≤◌, ◌<◌, Bool, true, false, cond, List, arith, sym, ap, subst, ◌∙◌}
use Rattle.drain_core.proofs.Common.{AreAwake, AreClosed, CanDrain, ChannelState, Checked, CostNumbers, GoesNext}
use Rattle.drain_core.proofs.Common.{GoesTo, IsBetweenSteps, MayEnter, MayGo, PreAll, Stamped, StepEnd, close_of}
use Rattle.drain_core.proofs.Common.{drain_start_of, max, progress_of}
use Rattle.frfcfs.proofs.refreshes.IntervalFits.{fits}
use Rattle.drain_core.specs.Drain.{Progress, drain_start, next_clock, for_each_rank, rest_clock, has_open_bank, close_rank, close_step_of, with_earliest}
use Rattle.drain_core.proofs.Closing.{IsClosing, close_step, closing_all, may_close, close_clock-le}
use Rattle.drain_core.proofs.Parts.{at_mid, goes_then, goes_rested, next_rank, takes_checked}

-- so many ranks were seen to
abbrev pub closing_of : ChannelState → ℕ → Progress
closing_of s rank = for_each_rank (close_rank s.checked.timing s.checked.geometry) rank (drain_start_of s)

close_early : (k s row rank r p t : ℕ) → k + 1 ≤ s + row + rank → rank < r → row + p + 2 * r ≤ t → t ≤ 1000000 → s < 2 ^ 63 - 2 ^ 32 → k < 2 ^ 63
close_early k s row rank r p t h l m n o = omega arith

module _ (n : CostNumbers) (old mid : ChannelState) (end : StepEnd) (rank : ℕ) (can : CanDrain old.checked old.commands) (goes : GoesTo n (closing_of old rank) 0 old mid end) where
  checked : mid.checked ≡ old.checked
  checked = takes_checked 0 old mid goes.takes

  closing : rank ≤ old.checked.geometry.ranks → IsClosing old.checked old.commands rank (progress_of mid end.clock)
  closing within = subst (λ (p : Progress). IsClosing old.checked old.commands rank p) (sym goes.progress) (closing_all old.checked old.commands rank can within)

  pub closing_awake : rank ≤ old.checked.geometry.ranks → AreAwake mid.checked mid.commands
  closing_awake within = subst (λ (c : Checked). AreAwake c mid.commands) (sym checked) (closing within).awake

  pub may_close_rank : rank < old.checked.geometry.ranks → has_open_bank mid.checked.geometry rank mid.commands ≡ true → MayGo mid.checked (progress_of mid end.clock) (PreAll rank)
  may_close_rank within =
      subst (λ (c : Checked). has_open_bank c.geometry rank mid.commands ≡ true → MayGo c (progress_of mid end.clock) (PreAll rank)) (sym checked)
      (λ some. may_close old.checked old.commands rank (progress_of mid end.clock) can within some (closing (omega (arith, within))))

  pub closing_early : rank < old.checked.geometry.ranks → next_clock mid.checked.timing (PreAll rank) (progress_of mid end.clock) < 2 ^ 63
  closing_early within =
      let c = old.checked in
      let fit = (fits c).row in
      let clock = close_clock-le c old.commands rank (progress_of mid end.clock) (closing (omega (arith, within))) in
      subst (λ (c : Checked). next_clock c.timing (PreAll rank) (progress_of mid end.clock) < 2 ^ 63) (sym checked)
      (close_early _ (drain_start old.commands) _ rank c.geometry.ranks c.timing.t_rp c.timing.t_refi clock within fit c.in_limits.t_refi.1 can.early)

  step : (b : Bool) → has_open_bank mid.checked.geometry rank mid.commands ≡ b → closing_of old (rank + 1) ≡ cond b (with_earliest old.checked.timing (PreAll rank) (closing_of old rank)) (closing_of old rank)
  step b e =
      let c = old.checked in
      let p = closing_of old rank in
      let here : has_open_bank c.geometry rank p.list ≡ b =
      ap (λ (k : Checked). has_open_bank k.geometry rank p.list) (sym checked) ∙ ap (λ (list : List Stamped). has_open_bank mid.checked.geometry rank list) (sym (ap (λ (q : Progress). q.list) goes.progress)) ∙ e in
      next_rank (close_rank c.timing c.geometry) rank (drain_start_of old) ∙ ap (λ (b : Bool). cond b (with_earliest c.timing (PreAll rank) p) p) here

  pub closing_open_rank : (new : ChannelState) (after : StepEnd) → has_open_bank mid.checked.geometry rank mid.commands ≡ true → GoesNext n (PreAll rank) mid new end after → GoesTo n (closing_of old (rank + 1)) 0 old new after
  closing_open_rank new after some on = subst (λ (p : Progress). GoesTo n p 0 old new after) (sym (step true some)) (goes_then n (closing_of old rank) 0 0 (PreAll rank) old mid new end after (omega arith) goes on)

  pub closing_closed_rank : has_open_bank mid.checked.geometry rank mid.commands ≡ false → GoesTo n (closing_of old (rank + 1)) 0 old mid end
  closing_closed_rank none = subst (λ (p : Progress). GoesTo n p 0 old mid end) (sym (step false none)) goes

  -- once all were seen to

  pub closing_all_closed : rank ≡ old.checked.geometry.ranks → AreClosed mid.checked mid.commands
  closing_all_closed e = subst (λ (c : Checked). AreClosed c mid.commands) (sym checked) (λ r within. (closing (omega (arith, e))).closed r (omega (arith, within, e)))

  pub closing_start : rank ≡ old.checked.geometry.ranks → drain_start mid.commands ≤ end.clock
  closing_start e = let start = (closing (omega (arith, e))).start in omega (arith, start)

  pub closing_rests : (clock : ℕ) → rank ≡ old.checked.geometry.ranks → clock ≡ max end.clock (rest_clock mid.checked.timing mid.commands) →
      GoesTo n (close_step_of old.checked.timing old.checked.geometry (drain_start_of old)) 0 old mid (record { clock = clock; cost = end.cost })
  unfolding close_step_of
  closing_rests clock e rested = goes_rested n (closing_of old old.checked.geometry.ranks) 0 old mid end clock (subst (λ (r : ℕ). GoesTo n (closing_of old r) 0 old mid end) e goes) rested

-- what the step comes to
pub closed_enter : (n : CostNumbers) (old mid : ChannelState) (end : StepEnd) → CanDrain old.checked old.commands → GoesTo n (close_step_of old.checked.timing old.checked.geometry (drain_start_of old)) 0 old mid end → MayEnter mid end.clock
closed_enter n old mid end can goes =
    at_mid n (close_step_of old.checked.timing old.checked.geometry (drain_start_of old)) 0 old mid end goes (λ c p. IsBetweenSteps c p) (close_step old.checked old.commands can).between

pub closed_clock : (n : CostNumbers) (old mid : ChannelState) (end : StepEnd) → CanDrain old.checked old.commands → GoesTo n (close_step_of old.checked.timing old.checked.geometry (drain_start_of old)) 0 old mid end →
    end.clock + old.checked.geometry.ranks ≤ drain_start old.commands + close_of old.checked.timing old.checked.geometry
closed_clock n old mid end can goes = let clock = ap (λ (p : Progress). p.clock) goes.progress in omega (arith, clock, (close_step old.checked old.commands can).clocks)
