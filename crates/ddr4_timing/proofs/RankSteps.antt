-- What one more command does to the least clocks of a rank.
use Rattle.std.proofs.Common.{◌≡◌, ◌≢◌, ℕ, ◌+◌, ◌<◌, ◌≤◌, Bool, true, false, cond, eqb, List, length, get_or, set, get_or-set_other, refl, ap, sym, subst, ◌∙◌, inl, inr, arith, rules, max, min, ◌*◌, ◌^◌, ◌&&◌, ◌||◌, Option}
use Rattle.std.proofs.Math.Bool.{and-true, or-false, or-true}
use Rattle.std.proofs.lemmas.Bool.{cases_eq, cases_Bool, eq-eqb, ne_eqb, and_right}
use Rattle.std.proofs.lemmas.Bool.Decides.{nat_tests}
use Rattle.std.proofs.lemmas.Grind.{get_or-set_at}
use Rattle.std.proofs.lemmas.List.{get_or_default}
use Rattle.ddr4_timing.proofs.Common.{Act, BankAddress, BankCells, BankRises, BankStands, BanksRise, ChannelTakes, ClockRises, Command, Geometry, GroupsRise, HasFewBanks, HasSlot, IsNotEarly, TimingState, Pre, PreAll, RankStands, RankState, RankTakes, Rd, Ref, Refresh, RefreshStands, Sre, Stamped, Timing, Window, WindowStands, Wr, bank_of, beyond_rank, demand_of, in_groups, in_rank, is_act, is_act_of, is_bank, is_ref, is_ref_of, is_sre, rank_of, row_after, row_in, slot_of, with_command}
use Rattle.ddr4_timing.proofs.Addresses.{has_room, same_slot, slot_small}
use Rattle.ddr4_timing.proofs.FloorLemmas.{floor_push, open_row_push, window-yes, window-first, window-no, ref_count_push, last_ref_push, is_asleep_push}
use Rattle.ddr4_timing.proofs.GapParts.{cond_same, tells_gaps}

-- cells

rises_both : (k x y a b a' b' : ℕ) → ClockRises k x a a' → ClockRises k y b b' → ClockRises k (max x y) (max a b) (max a' b')
rises_both k x y a b a' b' h e = omega (arith, h, e)

-- then the least clock rises to what the gaps leave
least_rises : (k next x b b' f gap f' : ℕ) → ClockRises k x b b' → max next b ≡ f → gap ≡ max 1 x → f' ≡ max f (k + gap) → max (max next (k + 1)) b' ≡ f'
least_rises k next x b b' f gap f' h e g p = omega (arith, h, e, g, p)

pub raised : (k x a a' : ℕ) → a' ≡ max a (k + x) → ClockRises k x a a'
raised k x a a' e = omega (arith, e)

pub kept : (k a : ℕ) → ClockRises k 0 a a
kept k a = omega arith

-- the clocks of the commands to a bank rise by what the command asks
record Rise (k : ℕ) (x : Command) (at : BankAddress) (b b' : BankCells) (ga ga' gr gr' gw gw' ra ra' : ℕ) (t : Timing) : Type 0 where
  bank : BankRises k x at (demand_of t x).bank_act (demand_of t x).bank_column (demand_of t x).bank_pre b b'
  group_act : ClockRises k (in_groups x at (demand_of t x).near_act (demand_of t x).far_act) ga ga'
  group_rd : ClockRises k (in_groups x at (demand_of t x).near_rd (demand_of t x).far_rd) gr gr'
  group_wr : ClockRises k (in_groups x at (demand_of t x).near_wr (demand_of t x).far_wr) gw gw'
  rank_act : ClockRises k (in_rank x at.rank (demand_of t x).rank_act) ra ra'

bank_stands : (t : Timing) (list : List Stamped) (k next write write' column column' : ℕ) (x : Command) (at : BankAddress) (old new : RankState) (b b' : BankCells) (ga ga' gr gr' gw gw' : ℕ) →
    Rise k x at b b' ga ga' gr gr' gw gw' old.act new.act t → ClockRises k (beyond_rank x at.rank (demand_of t x).beyond) column column' → ClockRises k (demand_of t x).write write write' → row_in new.rows at ≡ row_after at (row_in old.rows at) x →
    BankStands t list next write column at old b ga gr gw → BankStands t (with_command list k x) (max next (k + 1)) write' column' at new b' ga' gr' gw'
bank_stands t list k next write write' column column' x at old new b b' ga ga' gr gr' gw gw' h beyond writes row s =
    let y : Stamped = record { clock = k; cmd = x } in
    let demand = tells_gaps t x in
    record {
      row = row ∙ ap (λ r. row_after at r x) s.row ∙ sym (open_row_push at list y);
      act = least_rises k next _ _ _ _ _ _ (rises_both k _ _ _ _ _ _ h.bank.act (rises_both k _ _ _ _ _ _ h.group_act h.rank_act)) s.act (demand.act at 0) (floor_push t list y (Act at 0));
      rd = least_rises k next _ _ _ _ _ _ (rises_both k _ _ _ _ _ _ beyond (rises_both k _ _ _ _ _ _ h.bank.column h.group_rd)) s.rd (demand.rd at 0) (floor_push t list y (Rd at 0));
      wr = least_rises k next _ _ _ _ _ _ (rises_both k _ _ _ _ _ _ beyond (rises_both k _ _ _ _ _ _ writes (rises_both k _ _ _ _ _ _ h.bank.column h.group_wr))) s.wr (demand.wr at 0) (floor_push t list y (Wr at 0));
      pre = least_rises k next _ _ _ _ _ _ h.bank.pre s.pre (demand.pre at) (floor_push t list y (Pre at));
    }

-- the tests of two banks

pub eqb_self : (n : ℕ) → eqb n n ≡ true
eqb_self n = eq-eqb n n refl

is_bank_other : (a b : BankAddress) → slot_of a ≢ slot_of b → is_bank a b ≡ false
is_bank_other a b n = grind (arith, nat_tests)

-- the cells of a command's rank

pub banks_kept : (k : ℕ) (x : Command) (banks : List BankCells) → BanksRise k x 0 0 0 banks banks
banks_kept k x banks at none slot own = record { act = rw cond_same (kept k _); column = rw cond_same (kept k _); pre = rw cond_same (kept k _) }

-- one bank's cells are raised
pub banks_raised : (k : ℕ) (x : Command) (act column pre n : ℕ) (banks : List BankCells) (y d : BankCells) → length banks ≡ 16 → HasSlot (bank_of x) → n ≡ slot_of (bank_of x) →
    ClockRises k act (get_or banks n d).act y.act → ClockRises k column (get_or banks n d).column y.column → ClockRises k pre (get_or banks n d).pre y.pre → BanksRise k x act column pre banks (set banks n y)
banks_raised k x act column pre n banks y d size own slot to_act to_column to_pre at none there rank =
    let small = slot_small at there in
    elim (cases_eq n (slot_of at)) [
      | inl same ↦
          let here : is_bank (bank_of x) at ≡ true = rw (same_slot (bank_of x) at own there (sym rank) (sym slot ∙ same)) (simp eqb_self refl) in
          let old : get_or banks n d ≡ get_or banks (slot_of at) none = ap (λ (i : ℕ). get_or banks i d) same ∙ get_or_default banks (slot_of at) d none (omega (arith, size, small)) in
          let new = get_or-set_at banks n (slot_of at) y none (sym same) (omega (arith, size, small, same)) in
          record { act = rw (here, new, ← old) to_act; column = rw (here, new, ← old) to_column; pre = rw (here, new, ← old) to_pre }
      | inr other ↦
          let elsewhere = is_bank_other (bank_of x) at (λ q. other (slot ∙ q)) in
          let left = get_or-set_other banks n (slot_of at) y none (λ q. other (sym q)) in
          record { act = rw (elsewhere, left) (kept k _); column = rw (elsewhere, left) (kept k _); pre = rw (elsewhere, left) (kept k _) }
    ]

pub groups_kept : (k : ℕ) (x : Command) (cells : List ℕ) → GroupsRise k x 0 0 cells cells
groups_kept k x cells at none slot own = simp cond_same (kept k _)

-- each group's cell is raised
pub groups_raised : (k : ℕ) (x : Command) (near far : ℕ) (cells new : List ℕ) → length cells ≡ 4 →
    ((i none : ℕ) → i < length cells → get_or new i none ≡ max (get_or cells i none) (cond (eqb (bank_of x).group i) (k + near) (k + far))) → GroupsRise k x near far cells new
groups_raised k x near far cells new size h at none slot own =
    let same = eq-eqb (rank_of x) at.rank (sym own) in
    let e = h at.group none (omega (arith, size, slot.group)) in
    elim (cases_Bool (eqb (bank_of x).group at.group)) [
      | inl here ↦ rw (same, here, e, here) (raised k near _ _ refl)
      | inr elsewhere ↦ rw (same, elsewhere, e, elsewhere) (raised k far _ _ refl)
    ]

-- windows and refreshes

pub window_taken : (t : Timing) (rank k : ℕ) (list : List Stamped) (x : Command) (w : Window) → is_act_of rank x ≡ true → WindowStands t rank list w →
    WindowStands t rank (with_command list k x) (record { fourth = w.third; third = w.second; second = w.last; last = k + t.t_faw })
window_taken t rank k list x w e s = record {
  fourth = s.third ∙ sym (window-yes t rank 2 list _ e);
  third = s.second ∙ sym (window-yes t rank 1 list _ e);
  second = s.last ∙ sym (window-yes t rank 0 list _ e);
  last = sym (window-first t rank list _ e);
}

pub window_kept : (t : Timing) (rank k : ℕ) (list : List Stamped) (x : Command) (w : Window) → is_act_of rank x ≡ false → WindowStands t rank list w → WindowStands t rank (with_command list k x) w
window_kept t rank k list x w e s = record {
  fourth = s.fourth ∙ sym (window-no t rank 3 list _ e);
  third = s.third ∙ sym (window-no t rank 2 list _ e);
  second = s.second ∙ sym (window-no t rank 1 list _ e);
  last = s.last ∙ sym (window-no t rank 0 list _ e);
}

pub refresh_taken : (t : Timing) (rank k : ℕ) (list : List Stamped) (r : Refresh) (next : ℕ) → RefreshStands t rank list r → IsNotEarly t list (record { clock = k; cmd = Ref rank }) → next ≡ min (r.next + t.t_refi) 18446744073709551615 →
    k < 2 ^ 63 → t.t_refi ≤ 1000000 → RefreshStands t rank (with_command list k (Ref rank)) (record { next = next; deadline = k + 9 * t.t_refi })
refresh_taken t rank k list r next s keeps e early small =
    let here = eqb_self rank in
    let room = keeps refl in
    record {
      next = rw (ref_count_push, here) (omega (arith, s.next, e, room));
      deadline = rw (last_ref_push, here) refl;
    }

pub refresh_kept : (t : Timing) (rank k : ℕ) (list : List Stamped) (x : Command) (r : Refresh) → is_ref_of rank x ≡ false → RefreshStands t rank list r → RefreshStands t rank (with_command list k x) r
refresh_kept t rank k list x r e s = record {
  next = rw (ref_count_push, e) (omega (arith, s.next));
  deadline = rw (last_ref_push, e) (omega (arith, s.deadline));
}

-- a command of the rank

pub own_rank : (t : Timing) (g : Geometry) → HasFewBanks g → (list : List Stamped) (k next write write' column column' : ℕ) (x : Command) (old new : RankState) → RankTakes t k x old new → IsNotEarly t list (record { clock = k; cmd = x }) →
    ClockRises k (beyond_rank x (rank_of x) (demand_of t x).beyond) column column' → ClockRises k (demand_of t x).write write write' →
    RankStands t g list next write column (rank_of x) old → RankStands t g (with_command list k x) (max next (k + 1)) write' column' (rank_of x) new
own_rank t g few list k next write write' column column' x old new h keeps beyond writes s =
    let demand = tells_gaps t x in
    let here = eqb_self (rank_of x) in
    record {
      banks = λ at bank none there own.
          let slot = has_room g at few there in
          let same = eq-eqb (rank_of x) at.rank (sym own) in
          bank_stands t list k next write write' column column' x at old new _ _ _ _ _ _ _ _
          (record {
            bank = h.cells.banks at bank slot own;
            group_act = h.cells.group_act at none slot own;
            group_rd = h.cells.group_rd at none slot own;
            group_wr = h.cells.group_wr at none slot own;
            rank_act = rw same h.cells.act;
          })
          (subst (λ (r : ℕ). ClockRises k (beyond_rank x r (demand_of t x).beyond) column column') (sym own) beyond) writes (h.rows at slot own) (s.banks at bank none there own);
      pre_all = least_rises k next _ _ _ _ _ _ (rw here h.cells.pre_all) s.pre_all (demand.pre_all (rank_of x)) (floor_push _ list _ (PreAll (rank_of x)));
      refresh = least_rises k next _ _ _ _ _ _ (rw here h.cells.idle) s.refresh (demand.refresh (rank_of x)) (floor_push _ list _ (Ref (rank_of x)));
      sleep = least_rises k next _ _ _ _ _ _ (rw here h.cells.idle) s.sleep (demand.sleep (rank_of x)) (floor_push _ list _ (Sre (rank_of x)));
      windows = h.history.windows list s.windows;
      refreshes = h.history.refreshes list s.refreshes keeps;
      asleep = rw (is_asleep_push, here, and-true, ← s.asleep) h.history.asleep;
    }

-- a command of another rank

row_elsewhere : (at : BankAddress) (row : Option ℕ) (x : Command) → eqb (rank_of x) at.rank ≡ false → row_after at row x ≡ row
row_elsewhere at row (Act a w) e = rw e refl
row_elsewhere at row (Pre a) e = rw e refl
row_elsewhere at row (PreAll r) e = rw e refl
row_elsewhere at row x e = refl

other_rank : (t : Timing) (g : Geometry) (list : List Stamped) (k next write write' column column' : ℕ) (x : Command) (rank : ℕ) (r : RankState) → rank_of x ≢ rank →
    ClockRises k (beyond_rank x rank (demand_of t x).beyond) column column' → ClockRises k (demand_of t x).write write write' →
    RankStands t g list next write column rank r → RankStands t g (with_command list k x) (max next (k + 1)) write' column' rank r
other_rank t g list k next write write' column column' x rank r n beyond writes s =
    let demand = tells_gaps t x in
    let elsewhere = ne_eqb (rank_of x) rank n in
    record {
      banks = λ at bank none h own.
          let other = ne_eqb (rank_of x) at.rank (λ q. n (q ∙ own)) in
          bank_stands t list k next write write' column column' x at r r _ _ _ _ _ _ _ _
          (record {
            bank = record { act = rw other (kept k _); column = rw other (kept k _); pre = rw other (kept k _) };
            group_act = rw other (kept k _);
            group_rd = rw other (kept k _);
            group_wr = rw other (kept k _);
            rank_act = rw other (kept k _);
          })
          (subst (λ (m : ℕ). ClockRises k (beyond_rank x m (demand_of t x).beyond) column column') (sym own) beyond) writes (sym (row_elsewhere at _ x other)) (s.banks at bank none h own);
      pre_all = least_rises k next _ _ _ _ _ _ (rw elsewhere (kept k _)) s.pre_all (demand.pre_all rank) (floor_push _ list _ (PreAll rank));
      refresh = least_rises k next _ _ _ _ _ _ (rw elsewhere (kept k _)) s.refresh (demand.refresh rank) (floor_push _ list _ (Ref rank));
      sleep = least_rises k next _ _ _ _ _ _ (rw elsewhere (kept k _)) s.sleep (demand.sleep rank) (floor_push _ list _ (Sre rank));
      windows = window_kept t rank k list x r.window (and_right (is_act x) _ elsewhere) s.windows;
      refreshes = refresh_kept t rank k list x r.refresh (and_right (is_ref x) _ elsewhere) s.refreshes;
      asleep = rw (is_asleep_push rank list (record { clock = k; cmd = x }), and_right (is_sre x) _ elsewhere) (s.asleep ∙ sym (or-false _));
    }

-- each rank, behind a command that one of them takes
pub each_rank : (t : Timing) (g : Geometry) → HasFewBanks g → (list : List Stamped) (k : ℕ) (x : Command) (old new : TimingState) (taken d : RankState) (i : ℕ) → length old.ranks ≡ 8 → length old.columns ≡ 8 → i ≡ rank_of x →
    IsNotEarly t list (record { clock = k; cmd = x }) → RankTakes t k x (get_or old.ranks i d) taken → ChannelTakes t k x (record old { ranks = set old.ranks i taken }) new →
    ((rank column : ℕ) (none : RankState) → rank < g.ranks → RankStands t g list old.next old.write (get_or old.columns rank column) rank (get_or old.ranks rank none)) →
    (rank column : ℕ) (none : RankState) → rank < g.ranks → RankStands t g (with_command list k x) new.next new.write (get_or new.columns rank column) rank (get_or new.ranks rank none)
each_rank t g few list k x old new taken d i size wide at keeps takes shares stands rank column none h =
    let most = few.ranks in
    let beyond = shares.columns rank column (omega (arith, h, most, wide)) in
    elim (cases_eq i rank) [
      | inl same ↦
          let own = sym at ∙ same in
          let here : get_or old.ranks i d ≡ get_or old.ranks rank none = ap (λ (j : ℕ). get_or old.ranks j d) same ∙ get_or_default old.ranks rank d none (omega (arith, h, most, size)) in
          rw (shares.ranks, get_or-set_at old.ranks i rank taken none (sym same) (omega (arith, h, most, size, same)), shares.next)
          (subst (λ (r : ℕ). RankStands t g (with_command list k x) (max old.next (k + 1)) new.write (get_or new.columns rank column) r taken) own
          (own_rank t g few list k old.next old.write new.write (get_or old.columns rank column) (get_or new.columns rank column) x (get_or old.ranks i d) taken takes keeps
          (subst (λ (r : ℕ). ClockRises k (beyond_rank x r (demand_of t x).beyond) (get_or old.columns rank column) (get_or new.columns rank column)) (sym own) beyond) shares.write
          (subst (λ (r : ℕ). RankStands t g list old.next old.write (get_or old.columns rank column) r (get_or old.ranks i d)) (sym own) (subst (λ (r : RankState). RankStands t g list old.next old.write (get_or old.columns rank column) rank r) (sym here) (stands rank column none h)))))
      | inr n ↦
          rw (shares.ranks, get_or-set_other old.ranks i rank taken none (λ e. n (sym e)), shares.next)
          (other_rank t g list k old.next old.write new.write (get_or old.columns rank column) (get_or new.columns rank column) x rank (get_or old.ranks rank none) (λ e. n (at ∙ e)) beyond shares.write (stands rank column none h))
    ]

pub ruleset takes = (rules, kept, raised, banks_kept, banks_raised, groups_kept, groups_raised, window_taken, window_kept, refresh_taken, refresh_kept, eqb_self, or-true)
