-- The close step of a drain is lawful, and short.
use Rattle.std.proofs.Common.{◌≡◌, ℕ, zero, suc, ◌+◌, ◌-◌, ◌*◌, ◌≤◌, ◌<◌, true, List, [], ◌∷◌, ◌++◌, arith, refl, sym, subst, ap, ◌∙◌, inl, inr, add-one, below_more}
use Rattle.drain_core.proofs.Common.{Act, AfterClose, AllClosed, AreAwake, CanDrain, Checked, Command, IsBetweenSteps}
use Rattle.drain_core.proofs.Common.{IsLawful, MayGo, Pre, PreAll, Rd, Ref, Sre, Stamped, Timing, Wr, cases_Bool}
use Rattle.drain_core.proofs.Common.{close_of, floor, floor_push, last_ref, least_clock, max, most_gap, most_gap-PreAll}
use Rattle.drain_core.proofs.Common.{most_gap-close, row_time}
use Rattle.frfcfs.proofs.refreshes.RowsClosed.{closed_push, closed_after}
use Rattle.drain_core.specs.Drain.{Progress, drain_start, with_earliest, next_clock, for_each_rank, rest_gap, rest_clock, after_rest, has_open_bank, close_rank, close_step_of}
use Rattle.chan_core.proofs.Sleeping.{awake-more}
use Rattle.drain_core.proofs.LawfulLists.{greatest_above, drain_start_push, latest-le}
use Rattle.drain_core.proofs.Settling.{rest_clock_push}
use Rattle.drain_core.proofs.OneCommand.{with_earliest-lawful, last_ref-calm, has_open_bank-false, has_open_bank-true}

-- So many ranks were seen to.
pub record IsClosing (c : Checked) (first : List Stamped) (ranks : ℕ) (p : Progress) : Type 0 where
  pub lawful : IsLawful c p.list
  pub awake : AreAwake c p.list
  pub closed : (rank : ℕ) → rank < ranks → AllClosed c.geometry rank p.list
  pub refreshes : (rank : ℕ) → last_ref rank p.list ≡ last_ref rank first
  pub start : p.clock ≡ drain_start p.list
  -- a PREA waits for a row, and for those of the ranks before
  pub clock : p.clock + 1 ≤ drain_start first + row_time c.timing + ranks
  pub waits : (rank : ℕ) → floor c.timing p.list (PreAll rank) + 1 ≤ drain_start first + row_time c.timing + ranks
  pub rest : rest_clock c.timing p.list + 1 ≤ drain_start first + max (row_time c.timing) c.timing.t_rfc + c.timing.t_rp + ranks

-- before the first

row_some : (c : Checked) → 1 ≤ row_time c.timing
row_some c = let l = c.in_limits.t_ras.0 in omega arith

wait_one : (clock gap row : ℕ) → 1 ≤ row → gap ≤ max 1 row → clock + gap ≤ clock + 1 + (row - 1)
wait_one clock gap row l h = omega arith

waits_at_first : (c : Checked) (list : List Stamped) (rank : ℕ) → IsLawful c list → floor c.timing list (PreAll rank) + 1 ≤ drain_start list + row_time c.timing + 0
unfolding floor
waits_at_first c list rank lawful =
    let row = row_time c.timing in
    let some = row_some c in
    let each = greatest_above (λ a _. a.clock + most_gap c.timing a.cmd (PreAll rank)) (λ a. a.clock + 1) (row - 1) list (λ a _. wait_one a.clock (most_gap c.timing a.cmd (PreAll rank)) row some (most_gap-PreAll c.timing a.cmd rank c.fits_faw)) in
    let latest = latest-le c list lawful in
    omega (arith, each, latest, some)

rest_gap-le : (t : Timing) (cmd : Command) → rest_gap t cmd ≤ max t.t_rp t.t_rfc
rest_gap-le t (Act at row) = omega arith
rest_gap-le t (Rd at column) = omega arith
rest_gap-le t (Wr at column) = omega arith
rest_gap-le t (Pre at) = omega arith
rest_gap-le t (PreAll rank) = omega arith
rest_gap-le t (Ref rank) = omega arith
rest_gap-le t (Sre rank) = omega arith

rest_one : (clock gap rp rfc : ℕ) → 1 ≤ rp → gap ≤ max rp rfc → clock + gap ≤ clock + 1 + (max rp rfc - 1)
rest_one clock gap rp rfc l h = omega arith

first_rest : (rest latest start row rp rfc : ℕ) → rest ≤ latest + (max rp rfc - 1) → latest ≤ start → 1 ≤ rp → rest + 1 ≤ start + max row rfc + rp + 0
first_rest rest latest start row rp rfc h l some = omega arith

rest_at_first : (c : Checked) (list : List Stamped) → IsLawful c list → rest_clock c.timing list + 1 ≤ drain_start list + max (row_time c.timing) c.timing.t_rfc + c.timing.t_rp + 0
unfolding rest_clock
rest_at_first c list lawful =
    let t = c.timing in
    let some = c.in_limits.t_rp.0 in
    let each = greatest_above (λ a _. a.clock + rest_gap t a.cmd) (λ a. a.clock + 1) (max t.t_rp t.t_rfc - 1) list (λ a _. rest_one a.clock (rest_gap t a.cmd) t.t_rp t.t_rfc some (rest_gap-le t a.cmd)) in
    let latest = latest-le c list lawful in
    first_rest _ _ _ (row_time t) t.t_rp t.t_rfc each latest some

none_closing : (c : Checked) (list : List Stamped) → CanDrain c list → IsClosing c list 0 (record { list = list; clock = drain_start list })
none_closing c list can = record {
  lawful = can.lawful;
  awake = can.awake;
  closed = λ rank l. absurd (omega arith);
  refreshes = λ rank. refl;
  start = refl;
  clock = let some = row_some c in omega arith;
  waits = λ rank. waits_at_first c list rank can.lawful;
  rest = rest_at_first c list can.lawful;
}

-- one more

later : (a b n : ℕ) → a + 1 ≤ b + n → a + 1 ≤ b + (n + 1)
later a b n h = omega arith

closing_closed : (c : Checked) (first : List Stamped) (rank : ℕ) (p : Progress) → AllClosed c.geometry rank p.list → IsClosing c first rank p → IsClosing c first (rank + 1) p
closing_closed c first rank p closed i = record {
  lawful = i.lawful;
  awake = i.awake;
  closed = below_more (λ r. AllClosed c.geometry r p.list) rank i.closed closed;
  refreshes = i.refreshes;
  start = i.start;
  clock = let l = i.clock in omega (arith, l);
  waits = λ r. let l = i.waits r in omega (arith, l);
  rest = let l = i.rest in omega (arith, l);
}

next_close : (clock floor s row j : ℕ) → clock + 1 ≤ s + row + j → floor + 1 ≤ s + row + j → max clock (max floor (max 0 0)) + 1 ≤ s + row + j
next_close clock floor s row j h l = omega arith

pub close_clock-le : (c : Checked) (first : List Stamped) (rank : ℕ) (p : Progress) → IsClosing c first rank p → next_clock c.timing (PreAll rank) p + 1 ≤ drain_start first + row_time c.timing + rank
unfolding least_clock
close_clock-le c first rank p i = next_close p.clock (floor c.timing p.list (PreAll rank)) (drain_start first) (row_time c.timing) rank i.clock (i.waits rank)

close_sum : (ras w rtp rfc rp r : ℕ) → max (max ras (max rtp w)) rfc + rp + 2 * r - 1 ≡ max (max ras w) (max rtp rfc) + rp + 2 * r - 1
close_sum ras w rtp rfc rp r = omega arith

-- a close step by its longest waits
pub close-sum : (c : Checked) → max (row_time c.timing) c.timing.t_rfc + c.timing.t_rp + 2 * c.geometry.ranks - 1 ≡ close_of c.timing c.geometry
close-sum c = let t = c.timing in close_sum t.t_ras (t.cwl + 4 + t.t_wr) t.t_rtp t.t_rfc t.t_rp c.geometry.ranks

close_in_time : (k s row rfc rp j r cl dead : ℕ) → k + 1 ≤ s + row + j → j < r → max row rfc + rp + 2 * r - 1 ≡ cl → s + (cl + r) ≤ dead → 1 ≤ rp → k ≤ dead
close_in_time k s row rfc rp j r cl dead h l m o some = omega (arith, h, l, m, o, some)

pub may_close : (c : Checked) (first : List Stamped) (rank : ℕ) (p : Progress) → CanDrain c first → rank < c.geometry.ranks → has_open_bank c.geometry rank p.list ≡ true → IsClosing c first rank p → MayGo c p (PreAll rank)
may_close c first rank p can within some i =
    let t = c.timing in record {
      rows = record { place = within; awake = i.awake rank within; rows = has_open_bank-true c.geometry rank p.list some };
      in_time = rw (i.refreshes rank) (close_in_time _ (drain_start first) (row_time t) t.t_rfc t.t_rp rank c.geometry.ranks (close_of t c.geometry) _ (close_clock-le c first rank p i) within (close-sum c) (can.in_time rank within) c.in_limits.t_rp.0);
    }

next_rest : (rest k s m rp j row : ℕ) → rest + 1 ≤ s + m + rp + j → k + 1 ≤ s + row + j → row ≤ m → max rest (k + rp) + 1 ≤ s + m + rp + (j + 1)
next_rest rest k s m rp j row h l n = omega arith

next_waits : (floor k gap s row j : ℕ) → floor + 1 ≤ s + row + j → k + 1 ≤ s + row + j → gap ≤ 1 → max floor (k + gap) + 1 ≤ s + row + (j + 1)
next_waits floor k gap s row j h l g = omega arith

left_of_max : (a b : ℕ) → a ≤ max a b
left_of_max a b = omega arith

closing_open : (c : Checked) (first : List Stamped) (rank : ℕ) (p : Progress) → MayGo c p (PreAll rank) → IsClosing c first rank p → IsClosing c first (rank + 1) (with_earliest c.timing (PreAll rank) p)
unfolding with_earliest
closing_open c first rank p may i =
    let t = c.timing in
    let k = next_clock t (PreAll rank) p in
    let x : Stamped = record { clock = k; cmd = PreAll rank } in
    let at = close_clock-le c first rank p i in record {
      lawful = with_earliest-lawful c p (PreAll rank) i.lawful may;
      awake = awake-more c p.list x refl i.awake;
      closed = below_more (λ r. AllClosed c.geometry r (p.list ++ x ∷ [])) rank (λ r l. closed_push c.geometry r p.list x refl (i.closed r l)) (closed_after c.geometry rank k p.list);
      refreshes = λ r. last_ref-calm r p.list x refl ∙ i.refreshes r;
      start = sym (drain_start_push p.list x);
      clock = omega (arith, at);
      waits = λ r. rw (floor_push t p.list x (PreAll r)) (next_waits _ k _ _ _ rank (i.waits r) at (most_gap-close t rank r));
      rest = rw (rest_clock_push t p.list x) (next_rest _ k _ _ t.t_rp rank (row_time t) i.rest at (left_of_max (row_time t) t.t_rfc));
    }

pub closing_next : (c : Checked) (first : List Stamped) (rank : ℕ) (p : Progress) → CanDrain c first → rank < c.geometry.ranks → IsClosing c first rank p → IsClosing c first (rank + 1) (close_rank c.timing c.geometry rank p)
closing_next c first rank p can within i =
    elim (cases_Bool (has_open_bank c.geometry rank p.list)) [
      | inl some ↦ rw some (closing_open c first rank p (may_close c first rank p can within some i) i)
      | inr none ↦ rw none (closing_closed c first rank p (has_open_bank-false c.geometry rank p.list none) i)
    ]

-- all ranks

pub closing_all : (c : Checked) (first : List Stamped) (ranks : ℕ) → CanDrain c first → ranks ≤ c.geometry.ranks → IsClosing c first ranks (for_each_rank (close_rank c.timing c.geometry) ranks (record { list = first; clock = drain_start first }))
closing_all c first zero can within = none_closing c first can
closing_all c first (suc ranks) can within =
    let p = for_each_rank (close_rank c.timing c.geometry) ranks (record { list = first; clock = drain_start first }) in
    subst (λ (n : ℕ). IsClosing c first n (close_rank c.timing c.geometry ranks p)) (add-one ranks)
    (closing_next c first ranks p can (omega arith) (closing_all c first ranks can (omega arith)))

closed_clock : (clock rest s row rfc rp r cl : ℕ) → clock + 1 ≤ s + row + r → rest + 1 ≤ s + max row rfc + rp + r → max row rfc + rp + 2 * r - 1 ≡ cl → 1 ≤ rp → max clock rest + r ≤ s + cl
closed_clock clock rest s row rfc rp r cl h l e some = omega (arith, h, l, e, some)

closed_in_time : (k r s cl dead : ℕ) → k + r ≤ s + cl → s + (cl + r) ≤ dead → k + 2 * r ≤ dead
closed_in_time k r s cl dead h l = omega arith

-- where all ranks were seen to, and have rested
pub closed_clocks : (c : Checked) (first : List Stamped) (p : Progress) → IsClosing c first c.geometry.ranks p → (after_rest c.timing p).clock + c.geometry.ranks ≤ drain_start first + close_of c.timing c.geometry
unfolding after_rest
closed_clocks c first p i = closed_clock p.clock _ (drain_start first) (row_time c.timing) c.timing.t_rfc c.timing.t_rp c.geometry.ranks (close_of c.timing c.geometry) i.clock i.rest (close-sum c) c.in_limits.t_rp.0

pub closed_between : (c : Checked) (first : List Stamped) (p : Progress) → CanDrain c first → IsClosing c first c.geometry.ranks p → IsBetweenSteps c (after_rest c.timing p)
unfolding after_rest
closed_between c first p can i =
    let k = max p.clock (rest_clock c.timing p.list) in
    let clocks = closed_clock p.clock _ (drain_start first) (row_time c.timing) c.timing.t_rfc c.timing.t_rp c.geometry.ranks (close_of c.timing c.geometry) i.clock i.rest (close-sum c) c.in_limits.t_rp.0 in record {
      lawful = i.lawful;
      awake = i.awake;
      closed = i.closed;
      clock = ap (λ (clock : ℕ). max clock (rest_clock c.timing p.list)) i.start;
      in_time = λ rank within. rw (i.refreshes rank) (closed_in_time k c.geometry.ranks (drain_start first) (close_of c.timing c.geometry) _ clocks (can.in_time rank within));
    }

pub close_step : (c : Checked) (first : List Stamped) → CanDrain c first → AfterClose c first (close_step_of c.timing c.geometry (record { list = first; clock = drain_start first }))
unfolding close_step_of
close_step c first can =
    let p = for_each_rank (close_rank c.timing c.geometry) c.geometry.ranks (record { list = first; clock = drain_start first }) in
    let i = closing_all c first c.geometry.ranks can (omega arith) in
    record { between = closed_between c first p can i; clocks = closed_clocks c first p i }
