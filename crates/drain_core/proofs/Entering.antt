-- The ACT, WR and PRE of an entry are lawful, and the entry takes no longer than the profile's sum.
use Rattle.std.proofs.Common.{◌≡◌, ℕ, ◌+◌, ◌*◌, ◌≤◌, Bool, true, false, cond, List, [], ◌∷◌, ◌++◌, Option, Some, None, arith, refl, sym, ap, ◌∙◌}
use Rattle.drain_core.proofs.Common.{Act, AfterEntries, AreAwake, AreClosed, BankAddress, Checked, HasBank}
use Rattle.drain_core.proofs.Common.{IsBetweenSteps, IsLawful, LiesIn, MayGo, Place, Pre, Stamped, Timing, Wr, bank_at}
use Rattle.drain_core.proofs.Common.{entry_of, floor, floor_push, last_ref, least_clock, max, open_row, open_row_push}
use Rattle.drain_core.proofs.Common.{row_after}
use Rattle.drain_core.specs.Drain.{Progress, drain_start, with_earliest, next_clock, rest_clock, after_rest, entry_step_of, after_refreshes}
use Rattle.chan_core.proofs.Sleeping.{awake-more}
use Rattle.drain_core.proofs.Gaps.{eqb-same, gap-act_wr, gap-act_pre, gap-wr_pre}
use Rattle.drain_core.proofs.LawfulLists.{drain_start_push}
use Rattle.drain_core.proofs.Settling.{settle_clock, settle_clock-le, rest_clock_push}
use Rattle.drain_core.proofs.Rested.{least-Act, floor-Wr, floor-Pre}
use Rattle.drain_core.proofs.OneCommand.{with_earliest-lawful, last_ref-calm}
use Rattle.drain_core.proofs.Refreshing.{IsRefreshed, refreshed}

-- behind the ACT, the WR and the PRE of a write at a place
abbrev pub after_act : Timing → Place → Progress → Progress
after_act t place p = with_earliest t (Act (bank_at place) place.row) p

abbrev pub after_wr : Timing → Place → Progress → Progress
after_wr t place p = with_earliest t (Wr (bank_at place) place.column) (after_act t place p)

abbrev pub after_pre : Timing → Place → Progress → Progress
after_pre t place p = with_earliest t (Pre (bank_at place)) (after_wr t place p)

-- how long behind the ACT its PRE goes
abbrev pub row_open : Timing → ℕ
row_open t = max t.t_ras (t.t_rcd + (t.cwl + 4 + t.t_wr))

module _ (c : Checked) (start p : Progress) (place : Place) (r : IsRefreshed c start p) where
  settled : settle_clock c.timing p.list ≤ p.clock
  settled = let e = r.clock in settle_clock-le c p.list p.clock r.lawful r.closed (omega (arith, e)) (omega (arith, e))

  -- the ACT goes at once
  pub act_clock : next_clock c.timing (Act (bank_at place) place.row) p ≡ p.clock
  act_clock = let l = least-Act c p.list (bank_at place) place.row in let s = settled in omega (arith, l, s)

  act_list : (after_act c.timing place p).list ≡ p.list ++ record { clock = p.clock; cmd = Act (bank_at place) place.row } ∷ []
  unfolding with_earliest
  act_list = ap (λ (k : ℕ). p.list ++ record { clock = k; cmd = Act (bank_at place) place.row } ∷ []) act_clock

  act_next : (after_act c.timing place p).clock ≡ p.clock + 1
  unfolding with_earliest
  act_next = ap (λ (k : ℕ). k + 1) act_clock

  wr_at : (next floor a w rcd settle : ℕ) → next ≡ a + 1 → floor ≡ max w (a + max 1 rcd) → w ≤ settle + rcd → settle ≤ a → 1 ≤ rcd → max next (max floor (max 0 0)) ≡ a + rcd
  wr_at next floor a w rcd settle n f h s l = omega (arith, n, f, h, s, l)

  wr_floor : floor c.timing (after_act c.timing place p).list (Wr (bank_at place) place.column) ≡ max (floor c.timing p.list (Wr (bank_at place) place.column)) (p.clock + max 1 c.timing.t_rcd)
  wr_floor =
      rw act_list
      (floor_push c.timing p.list (record { clock = p.clock; cmd = Act (bank_at place) place.row }) (Wr (bank_at place) place.column)
      ∙ ap (λ (gap : ℕ). max (floor c.timing p.list (Wr (bank_at place) place.column)) (p.clock + gap)) (gap-act_wr c.timing (bank_at place) place.row place.column))

  pub wr_clock : next_clock c.timing (Wr (bank_at place) place.column) (after_act c.timing place p) ≡ p.clock + c.timing.t_rcd
  unfolding least_clock
  wr_clock = wr_at _ _ p.clock _ c.timing.t_rcd _ act_next wr_floor (floor-Wr c p.list (bank_at place) place.column) settled c.in_limits.t_rcd.0

  wr_list : (after_wr c.timing place p).list ≡ (after_act c.timing place p).list ++ record { clock = p.clock + c.timing.t_rcd; cmd = Wr (bank_at place) place.column } ∷ []
  unfolding with_earliest
  wr_list = ap (λ (k : ℕ). (after_act c.timing place p).list ++ record { clock = k; cmd = Wr (bank_at place) place.column } ∷ []) wr_clock

  wr_next : (after_wr c.timing place p).clock ≡ p.clock + c.timing.t_rcd + 1
  unfolding with_earliest
  wr_next = ap (λ (k : ℕ). k + 1) wr_clock

  pre_floor : floor c.timing (after_wr c.timing place p).list (Pre (bank_at place)) ≡
      max (max (floor c.timing p.list (Pre (bank_at place))) (p.clock + max 1 c.timing.t_ras)) (p.clock + c.timing.t_rcd + max 1 (c.timing.cwl + 4 + c.timing.t_wr))
  pre_floor =
      let t = c.timing in
      let pre = Pre (bank_at place) in
      let behind_act : floor t (after_act t place p).list pre ≡ max (floor t p.list pre) (p.clock + max 1 t.t_ras) =
      rw act_list (floor_push t p.list (record { clock = p.clock; cmd = Act (bank_at place) place.row }) pre
      ∙ ap (λ (gap : ℕ). max (floor t p.list pre) (p.clock + gap)) (gap-act_pre t (bank_at place) place.row)) in
      rw wr_list (floor_push t (after_act t place p).list (record { clock = p.clock + t.t_rcd; cmd = Wr (bank_at place) place.column }) pre
      ∙ ap (λ (gap : ℕ). max (floor t (after_act t place p).list pre) (p.clock + t.t_rcd + gap)) (gap-wr_pre t (bank_at place) place.column)
      ∙ ap (λ (f : ℕ). max f (p.clock + t.t_rcd + max 1 (t.cwl + 4 + t.t_wr))) behind_act)

  pre_at : (next floor a f ras rcd w settle : ℕ) → next ≡ a + rcd + 1 → floor ≡ max (max f (a + max 1 ras)) (a + rcd + max 1 (w + 4)) → f ≤ settle → settle ≤ a → 1 ≤ ras → max next (max floor (max 0 0)) ≡ a + max ras (rcd + (w + 4))
  pre_at next floor a f ras rcd w settle n e h s l = omega (arith, n, e, h, s, l)

  pub pre_clock : next_clock c.timing (Pre (bank_at place)) (after_wr c.timing place p) ≡ p.clock + row_open c.timing
  unfolding least_clock
  pre_clock =
      let t = c.timing in
      let f = pre_floor in
      let s = floor-Pre c p.list (bank_at place) in
      let e = pre_at _ (floor t (after_wr t place p).list (Pre (bank_at place))) p.clock (floor t p.list (Pre (bank_at place))) t.t_ras t.t_rcd (t.cwl + t.t_wr) _ wr_next (omega (arith, f)) s settled c.in_limits.t_ras.0 in
      omega (arith, e)

  pre_list : (after_pre c.timing place p).list ≡ (after_wr c.timing place p).list ++ record { clock = p.clock + row_open c.timing; cmd = Pre (bank_at place) } ∷ []
  unfolding with_earliest
  pre_list = ap (λ (k : ℕ). (after_wr c.timing place p).list ++ record { clock = k; cmd = Pre (bank_at place) } ∷ []) pre_clock

  pre_next : (after_pre c.timing place p).clock ≡ p.clock + row_open c.timing + 1
  unfolding with_earliest
  pre_next = ap (λ (k : ℕ). k + 1) pre_clock

sum_of_entry : (n ras rcd cwl wr rp : ℕ) → n + max ras (rcd + (cwl + 4 + wr)) + rp ≡ n + max ras (rcd + cwl + 4 + wr) + rp
sum_of_entry n ras rcd cwl wr rp = omega arith

pub entry-sum : (c : Checked) → c.geometry.ranks * c.timing.t_rfc + row_open c.timing + c.timing.t_rp ≡ entry_of c.timing c.geometry
entry-sum c = let t = c.timing in sum_of_entry (c.geometry.ranks * t.t_rfc) t.t_ras t.t_rcd t.cwl t.t_wr t.t_rp

within_entry : (a k e n o p sum room dead : ℕ) → a ≤ e + n → k ≤ a + o → n + o + p ≡ sum → e + (sum + room) ≤ dead → k ≤ dead
within_entry a k e n o p sum room dead h l m d = omega (arith, h, l, m, d)

rests : (rest first second third a ras rcd w rp : ℕ) → rest ≤ a → first ≡ max rest (a + 0) → second ≡ max first (a + rcd + 0) → third ≡ max second (a + max ras (rcd + w) + rp) → third ≡ a + max ras (rcd + w) + rp
rests rest first second third a ras rcd w rp h e f g = omega (arith, h, e, f, g)

both_none : (b : Bool) (row : ℕ) → cond {A = Option ℕ} b None (cond b (Some row) None) ≡ None
both_none true row = refl
both_none false row = refl

module _ (c : Checked) (start p : Progress) (place : Place) (lies : LiesIn c.geometry place) (r : IsRefreshed c start p) where
  has_bank : HasBank c.geometry (bank_at place)
  has_bank = record { rank = lies.rank; group = lies.group; bank = lies.bank }

  in_time : (k : ℕ) (list : List Stamped) → k ≤ p.clock + row_open c.timing → last_ref place.rank list ≡ last_ref place.rank p.list → k ≤ last_ref place.rank list + 9 * c.timing.t_refi
  in_time k list h e =
      let t = c.timing in
      rw e (within_entry p.clock k start.clock (c.geometry.ranks * t.t_rfc) (row_open t) t.t_rp (entry_of t c.geometry) (2 * c.geometry.ranks) _ r.short h (entry-sum c) (r.in_time place.rank lies.rank))

  pub may_act : MayGo c p (Act (bank_at place) place.row)
  may_act =
      let at = act_clock c start p place r in record {
        rows = record { place = (has_bank, lies.row); awake = r.awake place.rank lies.rank; rows = r.closed place.rank lies.rank place.group place.bank lies.group lies.bank };
        in_time = in_time (next_clock c.timing (Act (bank_at place) place.row) p) p.list (omega (arith, at)) refl;
      }

  act_lawful : IsLawful c (after_act c.timing place p).list
  act_lawful = with_earliest-lawful c p (Act (bank_at place) place.row) r.lawful may_act

  act_awake : AreAwake c (after_act c.timing place p).list
  act_awake = rw (act_list c start p place r) (awake-more c p.list (record { clock = p.clock; cmd = Act (bank_at place) place.row }) refl r.awake)

  -- whatever was open there, and none was
  act_row : (bank : BankAddress) → open_row bank (after_act c.timing place p).list ≡ row_after bank (open_row bank p.list) (Act (bank_at place) place.row)
  act_row bank = rw (act_list c start p place r) (open_row_push bank p.list (record { clock = p.clock; cmd = Act (bank_at place) place.row }))

  pub act_opens : open_row (bank_at place) (after_act c.timing place p).list ≡ Some place.row
  act_opens = act_row (bank_at place) ∙ simp eqb-same

  act_refs : (rank : ℕ) → last_ref rank (after_act c.timing place p).list ≡ last_ref rank p.list
  act_refs rank = rw (act_list c start p place r) (last_ref-calm rank p.list (record { clock = p.clock; cmd = Act (bank_at place) place.row }) refl)

  pub may_wr : MayGo c (after_act c.timing place p) (Wr (bank_at place) place.column)
  may_wr =
      let at = wr_clock c start p place r in record {
        rows = record { place = (has_bank, lies.column); awake = act_awake place.rank lies.rank; rows = λ e. let o = act_opens in absurd cc };
        in_time = in_time (next_clock c.timing (Wr (bank_at place) place.column) (after_act c.timing place p)) (after_act c.timing place p).list (omega (arith, at)) (act_refs place.rank);
      }

  wr_lawful : IsLawful c (after_wr c.timing place p).list
  wr_lawful = with_earliest-lawful c (after_act c.timing place p) (Wr (bank_at place) place.column) act_lawful may_wr

  wr_awake : AreAwake c (after_wr c.timing place p).list
  wr_awake = rw (wr_list c start p place r) (awake-more c (after_act c.timing place p).list (record { clock = p.clock + c.timing.t_rcd; cmd = Wr (bank_at place) place.column }) refl act_awake)

  wr_row : (bank : BankAddress) → open_row bank (after_wr c.timing place p).list ≡ open_row bank (after_act c.timing place p).list
  wr_row bank = rw (wr_list c start p place r) (open_row_push bank (after_act c.timing place p).list (record { clock = p.clock + c.timing.t_rcd; cmd = Wr (bank_at place) place.column }))

  wr_refs : (rank : ℕ) → last_ref rank (after_wr c.timing place p).list ≡ last_ref rank p.list
  wr_refs rank = rw (wr_list c start p place r) (last_ref-calm rank (after_act c.timing place p).list (record { clock = p.clock + c.timing.t_rcd; cmd = Wr (bank_at place) place.column }) refl ∙ act_refs rank)

  pub may_pre : MayGo c (after_wr c.timing place p) (Pre (bank_at place))
  may_pre =
      let at = pre_clock c start p place r in record {
        rows = record { place = has_bank; awake = wr_awake place.rank lies.rank; rows = λ e. let o = act_opens in let s = wr_row (bank_at place) in absurd cc };
        in_time = in_time (next_clock c.timing (Pre (bank_at place)) (after_wr c.timing place p)) (after_wr c.timing place p).list (omega (arith, at)) (wr_refs place.rank);
      }

  pre_lawful : IsLawful c (after_pre c.timing place p).list
  pre_lawful = with_earliest-lawful c (after_wr c.timing place p) (Pre (bank_at place)) wr_lawful may_pre

  pub pre_awake : AreAwake c (after_pre c.timing place p).list
  pre_awake = rw (pre_list c start p place r) (awake-more c (after_wr c.timing place p).list (record { clock = p.clock + row_open c.timing; cmd = Pre (bank_at place) }) refl wr_awake)

  pre_refs : (rank : ℕ) → last_ref rank (after_pre c.timing place p).list ≡ last_ref rank p.list
  pre_refs rank = rw (pre_list c start p place r) (last_ref-calm rank (after_wr c.timing place p).list (record { clock = p.clock + row_open c.timing; cmd = Pre (bank_at place) }) refl ∙ wr_refs rank)

  pub pre_closed : AreClosed c (after_pre c.timing place p).list
  pre_closed rank within group bank l m =
      let at : BankAddress = record { rank = rank; group = group; bank = bank } in
      let pushed : open_row at (after_pre c.timing place p).list ≡ row_after at (open_row at (after_wr c.timing place p).list) (Pre (bank_at place)) =
      rw (pre_list c start p place r) (open_row_push at (after_wr c.timing place p).list (record { clock = p.clock + row_open c.timing; cmd = Pre (bank_at place) })) in
      pushed ∙ ap (λ (row : Option ℕ). row_after at row (Pre (bank_at place))) (wr_row at ∙ act_row at ∙ ap (λ (row : Option ℕ). row_after at row (Act (bank_at place) place.row)) (r.closed rank within group bank l m)) ∙ both_none _ place.row

  pre_rest : rest_clock c.timing (after_pre c.timing place p).list ≡ p.clock + row_open c.timing + c.timing.t_rp
  pre_rest =
      let t = c.timing in
      let first : rest_clock t (after_act t place p).list ≡ max (rest_clock t p.list) (p.clock + 0) = rw (act_list c start p place r) (rest_clock_push t p.list (record { clock = p.clock; cmd = Act (bank_at place) place.row })) in
      let second : rest_clock t (after_wr t place p).list ≡ max (rest_clock t (after_act t place p).list) (p.clock + t.t_rcd + 0) = rw (wr_list c start p place r) (rest_clock_push t (after_act t place p).list (record { clock = p.clock + t.t_rcd; cmd = Wr (bank_at place) place.column })) in
      let third : rest_clock t (after_pre t place p).list ≡ max (rest_clock t (after_wr t place p).list) (p.clock + row_open t + t.t_rp) = rw (pre_list c start p place r) (rest_clock_push t (after_wr t place p).list (record { clock = p.clock + row_open t; cmd = Pre (bank_at place) })) in
      rests _ _ _ _ p.clock t.t_ras t.t_rcd (t.cwl + 4 + t.t_wr) t.t_rp (let e = r.clock in omega (arith, e)) first second third

  pub pre_start : drain_start (after_pre c.timing place p).list ≡ (after_pre c.timing place p).clock
  pre_start = rw (pre_list c start p place r) (drain_start_push (after_wr c.timing place p).list (record { clock = p.clock + row_open c.timing; cmd = Pre (bank_at place) })) ∙ sym (pre_next c start p place r)

end_of_entry : (a e n o rp sum next rest : ℕ) → a ≤ e + n → n + o + rp ≡ sum → 1 ≤ rp → next ≡ a + o + 1 → rest ≡ a + o + rp → max next rest ≤ e + sum
end_of_entry a e n o rp sum next rest h s l f g = omega (arith, h, s, l, f, g)

time_left : (k e sum room dead : ℕ) → k ≤ e + sum → e + (sum + room) ≤ dead → k + room ≤ dead
time_left k e sum room dead h l = omega arith

pub entered : (c : Checked) (start p : Progress) (place : Place) → LiesIn c.geometry place → IsRefreshed c start p → AfterEntries c start 1 (after_rest c.timing (after_pre c.timing place p))
unfolding after_rest
entered c start p place lies r =
    let t = c.timing in
    let q = after_pre t place p in
    let clocks = end_of_entry p.clock start.clock (c.geometry.ranks * t.t_rfc) (row_open t) t.t_rp (entry_of t c.geometry) q.clock (rest_clock t q.list) r.short (entry-sum c) c.in_limits.t_rp.0 (pre_next c start p place r) (pre_rest c start p place lies r) in record {
      between = record {
        lawful = pre_lawful c start p place lies r;
        awake = pre_awake c start p place lies r;
        closed = pre_closed c start p place lies r;
        clock = ap (λ (k : ℕ). max k (rest_clock t q.list)) (sym (pre_start c start p place lies r));
        in_time = λ rank within. rw (pre_refs c start p place lies r rank) (time_left _ start.clock (entry_of t c.geometry) (2 * c.geometry.ranks) _ clocks (r.in_time rank within));
      };
      clocks = omega (arith, clocks);
    }

pub entry_step : (c : Checked) (start : Progress) (place : Place) → LiesIn c.geometry place → IsBetweenSteps c start → AfterEntries c start 1 (entry_step_of c.timing c.geometry place start)
unfolding entry_step_of
entry_step c start place lies b = entered c start (after_refreshes c.timing c.geometry start) place lies (refreshed c start b)
