-- The entry step of a channel, command by command.
use Rattle.std.proofs.Common.{◌≡◌, ℕ, ◌+◌, ◌-◌, ◌*◌, ◌^◌, ◌≤◌, ◌<◌, List, Some, slice_get, arith, refl, ap, subst, ◌∙◌}
use Rattle.drain_core.proofs.Common.{Act, AreAwake, AreClosed, BankAddress, ChannelState, CostNumbers, FitsOldest}
use Rattle.drain_core.proofs.Common.{GoesNext, GoesTo, IsBetweenSteps, IsEarly, LiesIn, MayEnter, MayGo, Place, Pre}
use Rattle.drain_core.proofs.Common.{StepEnd, Wr, bank_at, entry_of, max, open_row, placed_writes, progress_of}
use Rattle.drain_core.specs.Drain.{Progress, drain_start, next_clock, rest_clock, after_refreshes, entry_step_of}
use Rattle.drain_core.proofs.Entering.{after_act, after_wr, after_pre, row_open, act_clock, wr_clock, pre_clock, may_act, may_wr, may_pre, act_opens, pre_awake, pre_closed, pre_start, entry-sum, entry_step}
use Rattle.drain_core.proofs.Parts.{at_mid, goes_then, goes_rested}
use Rattle.drain_core.proofs.Refreshing.{IsRefreshed, refreshed, entry-le}

-- a clock of an entry that started early
entry_early : (k p e n o d sum r t : ℕ) → k ≤ p + o → p ≤ e + n → n + o + d ≡ sum → sum + 2 * r ≤ t → t ≤ 1000000 → e < 2 ^ 63 - 2 ^ 31 → k < 2 ^ 63
entry_early k p e n o d sum r t a h l m q s = omega arith

module _ (n : CostNumbers) (old : ChannelState) (clock : ℕ) (place : Place) {at : BankAddress} (is : at ≡ bank_at place) (enter : MayEnter old clock) (lies : LiesIn old.checked.geometry place) where
  rested : IsRefreshed old.checked (progress_of old clock) (after_refreshes old.checked.timing old.checked.geometry (progress_of old clock))
  rested = refreshed old.checked (progress_of old clock) enter

  early : (k : ℕ) → IsEarly clock → k ≤ (after_refreshes old.checked.timing old.checked.geometry (progress_of old clock)).clock + row_open old.checked.timing → k < 2 ^ 63
  early k first within =
      let c = old.checked in
      entry_early k (after_refreshes c.timing c.geometry (progress_of old clock)).clock clock (c.geometry.ranks * c.timing.t_rfc) (row_open c.timing) c.timing.t_rp (entry_of c.timing c.geometry) c.geometry.ranks c.timing.t_refi within rested.short (entry-sum c) (entry-le c) c.in_limits.t_refi.1 first

  module _ {ch1 : ChannelState} {end1 : StepEnd} (goes1 : GoesTo n (after_refreshes old.checked.timing old.checked.geometry (progress_of old clock)) 0 old ch1 end1) where
    pub may_open : MayGo ch1.checked (progress_of ch1 end1.clock) (Act at place.row)
    may_open =
        let p = after_refreshes old.checked.timing old.checked.geometry (progress_of old clock) in
        at_mid n p 0 old ch1 end1 goes1 (λ c p. MayGo c p (Act at place.row)) (rw is (may_act old.checked (progress_of old clock) p place lies rested))

    pub opening_early : IsEarly clock → next_clock ch1.checked.timing (Act at place.row) (progress_of ch1 end1.clock) < 2 ^ 63
    opening_early first =
        let p = after_refreshes old.checked.timing old.checked.geometry (progress_of old clock) in
        let by = act_clock old.checked (progress_of old clock) p place rested in
        at_mid n p 0 old ch1 end1 goes1 (λ c p. next_clock c.timing (Act at place.row) p < 2 ^ 63) (rw is (early _ first (omega (arith, by))))

    module _ {ch2 : ChannelState} {end2 : StepEnd} (on1 : GoesNext n (Act at place.row) ch1 ch2 end1 end2) where
      goes2 : GoesTo n (after_act old.checked.timing place (after_refreshes old.checked.timing old.checked.geometry (progress_of old clock))) 0 old ch2 end2
      goes2 = goes_then n (after_refreshes old.checked.timing old.checked.geometry (progress_of old clock)) 0 0 (Act (bank_at place) place.row) old ch1 ch2 end1 end2 (omega arith) goes1 (subst (λ (b : BankAddress). GoesNext n (Act b place.row) ch1 ch2 end1 end2) is on1)

      pub may_write : MayGo ch2.checked (progress_of ch2 end2.clock) (Wr at place.column)
      may_write =
          let p = after_refreshes old.checked.timing old.checked.geometry (progress_of old clock) in
          at_mid n (after_act old.checked.timing place p) 0 old ch2 end2 goes2 (λ c p. MayGo c p (Wr at place.column)) (rw is (may_wr old.checked (progress_of old clock) p place lies rested))

      pub writing_early : IsEarly clock → next_clock ch2.checked.timing (Wr at place.column) (progress_of ch2 end2.clock) < 2 ^ 63
      writing_early first =
          let p = after_refreshes old.checked.timing old.checked.geometry (progress_of old clock) in
          let by = wr_clock old.checked (progress_of old clock) p place rested in
          at_mid n (after_act old.checked.timing place p) 0 old ch2 end2 goes2 (λ c p. next_clock c.timing (Wr at place.column) p < 2 ^ 63) (rw is (early _ first (omega (arith, by))))

      pub fits_write : (number : ℕ) → slice_get (placed_writes old) 0 ≡ Some (number, place) → FitsOldest ch2 (Wr at place.column)
      fits_write number first =
          let p = after_refreshes old.checked.timing old.checked.geometry (progress_of old clock) in
          let opened = at_mid n (after_act old.checked.timing place p) 0 old ch2 end2 goes2 (λ c p. open_row at p.list ≡ Some place.row) (rw is (act_opens old.checked (progress_of old clock) p place lies rested)) in
          (number, place, ap (λ (placed : List (ℕ × Place)). slice_get placed 0) goes2.takes.placed ∙ first, is, refl, opened)

      module _ {ch3 : ChannelState} {end3 : StepEnd} (on2 : GoesNext n (Wr at place.column) ch2 ch3 end2 end3) where
        goes3 : GoesTo n (after_wr old.checked.timing place (after_refreshes old.checked.timing old.checked.geometry (progress_of old clock))) 1 old ch3 end3
        goes3 = goes_then n (after_act old.checked.timing place (after_refreshes old.checked.timing old.checked.geometry (progress_of old clock))) 0 1 (Wr (bank_at place) place.column) old ch2 ch3 end2 end3 (omega arith) goes2 (subst (λ (b : BankAddress). GoesNext n (Wr b place.column) ch2 ch3 end2 end3) is on2)

        pub may_shut : MayGo ch3.checked (progress_of ch3 end3.clock) (Pre at)
        may_shut =
            let p = after_refreshes old.checked.timing old.checked.geometry (progress_of old clock) in
            at_mid n (after_wr old.checked.timing place p) 1 old ch3 end3 goes3 (λ c p. MayGo c p (Pre at)) (rw is (may_pre old.checked (progress_of old clock) p place lies rested))

        pub shutting_early : IsEarly clock → next_clock ch3.checked.timing (Pre at) (progress_of ch3 end3.clock) < 2 ^ 63
        shutting_early first =
            let p = after_refreshes old.checked.timing old.checked.geometry (progress_of old clock) in
            let by = pre_clock old.checked (progress_of old clock) p place rested in
            at_mid n (after_wr old.checked.timing place p) 1 old ch3 end3 goes3 (λ c p. next_clock c.timing (Pre at) p < 2 ^ 63) (rw is (early _ first (omega (arith, by))))

        module _ {ch4 : ChannelState} {end4 : StepEnd} (on3 : GoesNext n (Pre at) ch3 ch4 end3 end4) where
          goes4 : GoesTo n (after_pre old.checked.timing place (after_refreshes old.checked.timing old.checked.geometry (progress_of old clock))) 1 old ch4 end4
          goes4 = goes_then n (after_wr old.checked.timing place (after_refreshes old.checked.timing old.checked.geometry (progress_of old clock))) 1 1 (Pre (bank_at place)) old ch3 ch4 end3 end4 (omega arith) goes3 (subst (λ (b : BankAddress). GoesNext n (Pre b) ch3 ch4 end3 end4) is on3)

          pub entered_awake : AreAwake ch4.checked ch4.commands
          entered_awake =
              let p = after_refreshes old.checked.timing old.checked.geometry (progress_of old clock) in
              at_mid n (after_pre old.checked.timing place p) 1 old ch4 end4 goes4 (λ c p. AreAwake c p.list) (pre_awake old.checked (progress_of old clock) p place lies rested)

          pub entered_closed : AreClosed ch4.checked ch4.commands
          entered_closed =
              let p = after_refreshes old.checked.timing old.checked.geometry (progress_of old clock) in
              at_mid n (after_pre old.checked.timing place p) 1 old ch4 end4 goes4 (λ c p. AreClosed c p.list) (pre_closed old.checked (progress_of old clock) p place lies rested)

          pub entered_start : drain_start ch4.commands ≤ end4.clock
          entered_start =
              let p = after_refreshes old.checked.timing old.checked.geometry (progress_of old clock) in
              let start = pre_start old.checked (progress_of old clock) p place lies rested in
              at_mid n (after_pre old.checked.timing place p) 1 old ch4 end4 goes4 (λ c p. drain_start p.list ≤ p.clock) (omega (arith, start))

          pub entered_rests : (rests : ℕ) → rests ≡ max end4.clock (rest_clock ch4.checked.timing ch4.commands) → GoesTo n (entry_step_of old.checked.timing old.checked.geometry place (progress_of old clock)) 1 old ch4 (record { clock = rests; cost = end4.cost })
          unfolding entry_step_of
          entered_rests rests e =
              let p = after_refreshes old.checked.timing old.checked.geometry (progress_of old clock) in
              goes_rested n (after_pre old.checked.timing place p) 1 old ch4 end4 rests goes4 e

-- what the step comes to
pub entered_enter : (n : CostNumbers) (old new : ChannelState) (clock : ℕ) (place : Place) (end : StepEnd) → MayEnter old clock → LiesIn old.checked.geometry place → GoesTo n (entry_step_of old.checked.timing old.checked.geometry place (progress_of old clock)) 1 old new end → MayEnter new end.clock
entered_enter n old new clock place end enter lies goes =
    at_mid n (entry_step_of old.checked.timing old.checked.geometry place (progress_of old clock)) 1 old new end goes (λ c p. IsBetweenSteps c p) (entry_step old.checked (progress_of old clock) place lies enter).between

pub entered_clock : (n : CostNumbers) (old new : ChannelState) (clock : ℕ) (place : Place) (end : StepEnd) → MayEnter old clock → LiesIn old.checked.geometry place → GoesTo n (entry_step_of old.checked.timing old.checked.geometry place (progress_of old clock)) 1 old new end →
    end.clock ≤ clock + entry_of old.checked.timing old.checked.geometry
entered_clock n old new clock place end enter lies goes =
    let at = ap (λ (p : Progress). p.clock) goes.progress in
    omega (arith, at, (entry_step old.checked (progress_of old clock) place lies enter).clocks)
