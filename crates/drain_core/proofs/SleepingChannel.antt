-- The SREs of a channel, rank by rank.
use Rattle.std.proofs.Common.{◌≡◌, ℕ, ◌+◌, ◌-◌, ◌*◌, ◌^◌, ◌≤◌, ◌<◌, arith, sym, subst, inl, inr}
use Rattle.drain_core.proofs.Common.{AreAsleep, ChannelState, Checked, CostNumbers, Geometry, GoesNext, GoesTo, IsEarly}
use Rattle.drain_core.proofs.Common.{MayEnter, MayGo, Sre, StepEnd, cases_lt, lines_of, progress_of}
use Rattle.frfcfs.proofs.refreshes.IntervalFits.{fits}
use Rattle.drain_core.specs.Drain.{Progress, next_clock, for_each_rank, with_earliest, after_self_refresh}
use Rattle.drain_core.proofs.Parts.{at_mid, goes_then, next_rank}
use Rattle.drain_core.proofs.Sleeping.{IsSleeping, sleeping_all, may_sleep, sre_clock}

-- so many ranks had theirs
abbrev pub sleeping_of : ChannelState → ℕ → ℕ → Progress
sleeping_of s clock rank = for_each_rank (λ rank. with_earliest s.checked.timing (Sre rank)) rank (progress_of s clock)

no_lines : (g : Geometry) → g.ranks ≡ 0 → lines_of g ≡ 0
unfolding lines_of
no_lines g e = rw e (omega arith)

pub some_ranks : (c : Checked) → 1 ≤ c.geometry.ranks
some_ranks c =
    elim (cases_lt 0 c.geometry.ranks) [
      | inl some ↦ omega (arith, some)
      | inr none ↦ let lines = no_lines c.geometry (omega (arith, none)) in absurd (omega (arith, lines, c.is_geometry.lines.0))
    ]

sre_early : (k p e rank r row d t : ℕ) → k ≡ p → p ≡ e + rank → rank < r → row + d + 2 * r ≤ t → t ≤ 1000000 → e < 2 ^ 63 - 2 ^ 31 → k < 2 ^ 63
sre_early k p e rank r row d t a h l m n o = omega arith

module _ (n : CostNumbers) (old mid : ChannelState) (clock : ℕ) (end : StepEnd) (rank : ℕ) (enter : MayEnter old clock) (goes : GoesTo n (sleeping_of old clock rank) 0 old mid end) where
  sleeping : rank ≤ old.checked.geometry.ranks → IsSleeping old.checked (progress_of old clock) rank (sleeping_of old clock rank)
  sleeping within = sleeping_all old.checked (progress_of old clock) rank enter within

  pub may_sleep_rank : rank < old.checked.geometry.ranks → MayGo mid.checked (progress_of mid end.clock) (Sre rank)
  may_sleep_rank within =
      at_mid n (sleeping_of old clock rank) 0 old mid end goes (λ c p. MayGo c p (Sre rank))
      (may_sleep old.checked (progress_of old clock) rank (sleeping_of old clock rank) enter within (sleeping (omega (arith, within))))

  pub sleeping_early : IsEarly clock → rank < old.checked.geometry.ranks → next_clock mid.checked.timing (Sre rank) (progress_of mid end.clock) < 2 ^ 63
  sleeping_early early within =
      let c = old.checked in
      let i = sleeping (omega (arith, within)) in
      at_mid n (sleeping_of old clock rank) 0 old mid end goes (λ c p. next_clock c.timing (Sre rank) p < 2 ^ 63)
      (sre_early _ _ clock rank c.geometry.ranks _ c.timing.t_rp c.timing.t_refi (sre_clock c (progress_of old clock) rank (sleeping_of old clock rank) i) i.clock within (fits c).row c.in_limits.t_refi.1 early)

  pub sleeping_rank : (new : ChannelState) (after : StepEnd) → GoesNext n (Sre rank) mid new end after → GoesTo n (sleeping_of old clock (rank + 1)) 0 old new after
  sleeping_rank new after on =
      subst (λ (p : Progress). GoesTo n p 0 old new after) (sym (next_rank (λ rank. with_earliest old.checked.timing (Sre rank)) rank (progress_of old clock)))
      (goes_then n (sleeping_of old clock rank) 0 0 (Sre rank) old mid new end after (omega arith) goes on)

  -- once all had theirs

  pub all_asleep : rank ≡ old.checked.geometry.ranks → AreAsleep mid.checked mid.commands
  all_asleep e = at_mid n (sleeping_of old clock rank) 0 old mid end goes (λ c p. AreAsleep c p.list) (λ r within. (sleeping (omega (arith, e))).asleep r (omega (arith, within, e)))

  pub sleeping_ends : rank ≡ old.checked.geometry.ranks → GoesTo n (after_self_refresh old.checked.timing old.checked.geometry (progress_of old clock)) 0 old mid end
  unfolding after_self_refresh
  sleeping_ends e = subst (λ (r : ℕ). GoesTo n (sleeping_of old clock r) 0 old mid end) e goes
