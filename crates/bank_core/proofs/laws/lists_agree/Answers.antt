use Rattle.std.proofs.Common.{◌≡◌, ℕ, ◌+◌, ◌/◌, ◌<◌, List, [], false, refl, sym, ap, ◌∙◌, arith, slice_index_or, mul-div_cancel}
use Rattle.bank_core.proofs.Common.{Act, AllClosed, AreInLimits, BankAddress, BankStands, Command, FitsRows, Geometry, HasBank, IsInGeometry, IsLawfulIn, Pre, PreAll, RankStands, RankState, Rd, Ref, Sre, Stamped, StandsFor, Timing, TimingState, Wr, floor, is_asleep, last_ref, least_clock, open_row, rank_of, ref_count, slot_of, window, with_command}
use Rattle.ddr4_timing.proofs.FloorLemmas.{floor-Act, floor-Rd, floor-Wr}
use Rattle.ddr4_timing.proofs.Addresses.{rank_within}
use Rattle.ddr4_timing.proofs.Lawfulness.{lawful_ready, ready_lawful}
use Rattle.bank_core.proofs.laws.lists_agree.Goals as goal

abbrev no_rank : RankState
no_rank = record {
  rows = record { is_open = []; rows = [] };
  banks = [];
  group_act = [];
  group_rd = [];
  group_wr = [];
  act = 0;
  pre_all = 0;
  idle = 0;
  window = record { fourth = 0; third = 0; second = 0; last = 0 };
  refresh = record { next = 0; deadline = 0 };
  is_asleep = false;
}

-- what a rank keeps, for each list
rank_of_list : (t : Timing) (g : Geometry) (m : TimingState) (list : List Stamped) (rank : ℕ) → StandsFor t g m list → rank < g.ranks →
    RankStands t g list m.next m.write (slice_index_or m.columns rank 0) rank (slice_index_or m.ranks rank no_rank)
rank_of_list t g m list rank s h = s.ranks rank 0 no_rank h

bank_of_list : (t : Timing) (g : Geometry) (m : TimingState) (list : List Stamped) (at : BankAddress) → StandsFor t g m list → HasBank g at →
    let r = slice_index_or m.ranks at.rank no_rank in
    BankStands t list m.next m.write (slice_index_or m.columns at.rank 0) at r (slice_index_or r.banks (slot_of at) (record { act = 0; column = 0; pre = 0 }))
    (slice_index_or r.group_act at.group 0) (slice_index_or r.group_rd at.group 0) (slice_index_or r.group_wr at.group 0)
bank_of_list t g m list at s h = (rank_of_list t g m list at.rank s h.rank).banks at _ 0 h refl

same_floor : (t : Timing) (g : Geometry) (m : TimingState) (one two : List Stamped) (x : Command) → StandsFor t g m one → StandsFor t g m two → IsInGeometry g x → floor t one x ≡ floor t two x
same_floor t g m one two (Act at row) s r h = floor-Act _ one at row ∙ sym (bank_of_list t g m one at s h.0).act ∙ (bank_of_list t g m two at r h.0).act ∙ sym (floor-Act _ two at row)
same_floor t g m one two (Rd at column) s r h = floor-Rd _ one at column ∙ sym (bank_of_list t g m one at s h.0).rd ∙ (bank_of_list t g m two at r h.0).rd ∙ sym (floor-Rd _ two at column)
same_floor t g m one two (Wr at column) s r h = floor-Wr _ one at column ∙ sym (bank_of_list t g m one at s h.0).wr ∙ (bank_of_list t g m two at r h.0).wr ∙ sym (floor-Wr _ two at column)
same_floor t g m one two (Pre at) s r h = sym (bank_of_list t g m one at s h).pre ∙ (bank_of_list t g m two at r h).pre
same_floor t g m one two (PreAll rank) s r h = sym (rank_of_list t g m one rank s h).pre_all ∙ (rank_of_list t g m two rank r h).pre_all
same_floor t g m one two (Ref rank) s r h = sym (rank_of_list t g m one rank s h).refresh ∙ (rank_of_list t g m two rank r h).refresh
same_floor t g m one two (Sre rank) s r h = sym (rank_of_list t g m one rank s h).sleep ∙ (rank_of_list t g m two rank r h).sleep

same_row : (t : Timing) (g : Geometry) (m : TimingState) (one two : List Stamped) (at : BankAddress) → StandsFor t g m one → StandsFor t g m two → HasBank g at → open_row at one ≡ open_row at two
same_row t g m one two at s r h = sym (bank_of_list t g m one at s h).row ∙ (bank_of_list t g m two at r h).row

-- the last REF, how many there were, whether there was an SRE, and the window
same_rank : (t : Timing) (g : Geometry) → AreInLimits t → (m : TimingState) (one two : List Stamped) (rank : ℕ) → StandsFor t g m one → StandsFor t g m two → rank < g.ranks
    → (last_ref rank one ≡ last_ref rank two) × (ref_count rank one ≡ ref_count rank two) × (is_asleep rank one ≡ is_asleep rank two) × (window t rank 3 one ≡ window t rank 3 two)
same_rank t g limits m one two rank s r h =
    let u = rank_of_list t g m one rank s h in
    let v = rank_of_list t g m two rank r h in
    let counted = λ (list : List Stamped). mul-div_cancel (ref_count rank list + 1) limits.t_refi.0 in
    let due = ap (λ n. n / t.t_refi) (sym u.refreshes.next ∙ v.refreshes.next) in
    (omega (arith, u.refreshes.deadline, v.refreshes.deadline), omega (arith, sym (counted one) ∙ due ∙ counted two), sym u.asleep ∙ v.asleep, sym u.windows.fourth ∙ v.windows.fourth)

same_clock : (t : Timing) (g : Geometry) → AreInLimits t → (m : TimingState) (one two : List Stamped) (x : Command) → StandsFor t g m one → StandsFor t g m two → IsInGeometry g x → least_clock t one x ≡ least_clock t two x
unfolding least_clock
same_clock t g limits m one two x s r h =
    let (last, count, sleep, acts) = same_rank t g limits m one two (rank_of x) s r (rank_within g x h) in
    let f = same_floor t g m one two x s r h in
    rw (f, acts, count) refl

closed_too : (t : Timing) (g : Geometry) (m : TimingState) (one two : List Stamped) (rank : ℕ) → StandsFor t g m one → StandsFor t g m two → rank < g.ranks → AllClosed g rank one → AllClosed g rank two
closed_too t g m one two rank s r h all group bank k l =
    sym (same_row t g m one two (record { rank = rank; group = group; bank = bank }) s r (record { rank = h; group = k; bank = l })) ∙ all group bank k l

fits_too : (t : Timing) (g : Geometry) (m : TimingState) (one two : List Stamped) (x : Command) → StandsFor t g m one → StandsFor t g m two → IsInGeometry g x → FitsRows g one x → FitsRows g two x
fits_too t g m one two (Act at row) s r h f = rw (← same_row t g m one two at s r h.0) f
fits_too t g m one two (Rd at column) s r h f = rw (← same_row t g m one two at s r h.0) f
fits_too t g m one two (Wr at column) s r h f = rw (← same_row t g m one two at s r h.0) f
fits_too t g m one two (Pre at) s r h f = rw (← same_row t g m one two at s r h) f
fits_too t g m one two (PreAll rank) s r h f = λ all. f (closed_too t g m two one rank r s h all)
fits_too t g m one two (Ref rank) s r h f = closed_too t g m one two rank s r h f
fits_too t g m one two (Sre rank) s r h f = closed_too t g m one two rank s r h f

lawful_too : (t : Timing) (g : Geometry) → AreInLimits t → (m : TimingState) (one two : List Stamped) (clock : ℕ) (x : Command) → StandsFor t g m one → StandsFor t g m two → IsLawfulIn t g (with_command one clock x) → IsLawfulIn t g (with_command two clock x)
lawful_too t g limits m one two clock x s r h =
    let ready = ready_lawful t g limits one (record { clock = clock; cmd = x }) h in
    let place = ready.rows.place in
    let (last, count, sleep, acts) = same_rank t g limits m one two (rank_of x) s r (rank_within g x place) in
    let least = same_clock t g limits m one two x s r place in
    lawful_ready t g two (record { clock = clock; cmd = x }) r.lawful (record {
      rows = record { place = place; awake = rw (← sleep) ready.rows.awake; rows = fits_too t g m one two x s r place ready.rows.rows };
      clock = omega (arith, least, ready.clock);
      in_time = omega (arith, last, ready.in_time);
    })

pub returns : goal.returns
returns _ t g m one two limits s r = record {
  open_row = λ at h. same_row t g m one two at s r h;
  last_ref = λ rank h. (same_rank t g limits m one two rank s r h).0;
  ref_count = λ rank h. (same_rank t g limits m one two rank s r h).1;
  is_asleep = λ rank h. (same_rank t g limits m one two rank s r h).2;
  floor = λ x h. same_floor t g m one two x s r h;
  least_clock = λ x h. same_clock t g limits m one two x s r h;
  lawful = λ clock x. (lawful_too t g limits m one two clock x s r, lawful_too t g limits m two one clock x r s);
}
