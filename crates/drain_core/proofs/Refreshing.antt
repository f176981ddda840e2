-- The refreshes at an entry's start are lawful, and leave each rank time for the entry and the next one's refreshes.
use Rattle.std.proofs.Common.{◌≡◌, ◌≢◌, ℕ, zero, suc, ◌+◌, ◌-◌, ◌*◌, ◌/◌, ◌≤◌, ◌<◌, true, false, [], ◌∷◌, ◌++◌, arith, refl, subst, ap, ◌∙◌, inl, inr, add-one, below_more}
use Rattle.std.proofs.Math.Nat.{le-div_iff_mul-le, mul-le-mul_left}
use Rattle.drain_core.proofs.Common.{AreAwake, AreClosed, Checked, HaveClocks, IsBetweenSteps, IsLawful, MayGo, Ref}
use Rattle.drain_core.proofs.Common.{Stamped, Timing, cases_Bool, cases_lt, close_of, entry_of, floor, floor_push}
use Rattle.drain_core.proofs.Common.{last_ref, least_clock, ltb-false, ltb-true, max, most_gap-Ref_other, ref_count}
use Rattle.bank_core.proofs.Refreshes.{refreshes_keep_pace}
use Rattle.frfcfs.proofs.refreshes.RefreshCounts.{ref_of_other, count_same, last_same, last_next}
use Rattle.frfcfs.proofs.refreshes.RowsClosed.{closed_push}
use Rattle.drain_core.specs.Drain.{Progress, drain_start, with_earliest, next_clock, for_each_rank, rest_clock, after_rest, owes_refresh, refresh_rank, after_refreshes}
use Rattle.chan_core.proofs.Sleeping.{awake-more}
use Rattle.drain_core.proofs.LawfulLists.{drain_start_push}
use Rattle.drain_core.proofs.Settling.{settle_clock, settle_clock-le, rest_clock_push}
use Rattle.drain_core.proofs.Rested.{floor-Ref}
use Rattle.drain_core.proofs.OneCommand.{with_earliest-lawful}

-- So many ranks were seen to, from the start of an entry on.
pub record IsRefreshing (c : Checked) (start : Progress) (ranks : ℕ) (p : Progress) : Type 0 where
  pub lawful : IsLawful c p.list
  pub awake : AreAwake c p.list
  pub closed : AreClosed c p.list
  -- the others have had nothing since
  pub counts : (rank : ℕ) → ranks ≤ rank → ref_count rank p.list ≡ ref_count rank start.list
  pub refreshes : (rank : ℕ) → ranks ≤ rank → last_ref rank p.list ≡ last_ref rank start.list
  pub waits : (rank : ℕ) → ranks ≤ rank → floor c.timing p.list (Ref rank) ≤ p.clock
  -- these have time for the entry, and the next one's refreshes
  pub refreshed : (rank : ℕ) → rank < ranks → rank < c.geometry.ranks →
      start.clock + (entry_of c.timing c.geometry + 2 * c.geometry.ranks) ≤ last_ref rank p.list + 9 * c.timing.t_refi
  pub from : start.clock ≤ p.clock
  pub clock : p.clock ≤ start.clock + ranks
  pub rest : rest_clock c.timing p.list ≤ start.clock + ranks * c.timing.t_rfc
  pub later : drain_start p.list ≤ p.clock
  pub stands : max p.clock (rest_clock c.timing p.list) ≡ max (drain_start p.list) (rest_clock c.timing p.list)

-- before the first

pub settled_between : (c : Checked) (p : Progress) → IsBetweenSteps c p → settle_clock c.timing p.list ≤ p.clock
settled_between c p b = let e = b.clock in settle_clock-le c p.list p.clock b.lawful b.closed (omega (arith, e)) (omega (arith, e))

none_refreshing : (c : Checked) (p : Progress) → IsBetweenSteps c p → IsRefreshing c p 0 p
none_refreshing c p b =
    let e = b.clock in
    let s = settled_between c p b in record {
      lawful = b.lawful;
      awake = b.awake;
      closed = b.closed;
      counts = λ rank l. refl;
      refreshes = λ rank l. refl;
      waits = λ rank l. let f = floor-Ref c p.list rank in omega (arith, f, s);
      refreshed = λ rank l w. absurd (omega arith);
      from = omega arith;
      clock = omega arith;
      rest = omega (arith, e);
      later = omega (arith, e);
      stands = omega (arith, e);
    }

-- what an interval has room for

entry_fits : (e d r t : ℕ) → 2 * (e + d) + 4 * r ≤ t → e + 2 * r ≤ t
entry_fits e d r t h = omega arith

pub entry-le : (c : Checked) → entry_of c.timing c.geometry + 2 * c.geometry.ranks ≤ c.timing.t_refi
entry-le c = entry_fits (entry_of c.timing c.geometry) (close_of c.timing c.geometry) c.geometry.ranks c.timing.t_refi c.fits_entry

-- a rank that owes none

owes-false : (t : Timing) (start : Progress) (rank : ℕ) → 1 ≤ t.t_refi → owes_refresh t start.list start.clock rank ≡ false → start.clock < (ref_count rank start.list + 1) * t.t_refi
unfolding owes_refresh
owes-false t start rank some e =
    let l = ltb-false 0 (start.clock / t.t_refi - ref_count rank start.list) e in
    let i = le-div_iff_mul-le {k = t.t_refi} {x = ref_count rank start.list + 1} {y = start.clock} some in
    elim (cases_lt start.clock ((ref_count rank start.list + 1) * t.t_refi)) [
      | inl below ↦ below
      | inr above ↦ let d = i.1 above in absurd (omega (arith, d, l))
    ]

pub owes-true : (t : Timing) (start : Progress) (rank : ℕ) → 1 ≤ t.t_refi → owes_refresh t start.list start.clock rank ≡ true → (ref_count rank start.list + 1) * t.t_refi ≤ start.clock
unfolding owes_refresh
owes-true t start rank some e =
    let l = ltb-true 0 (start.clock / t.t_refi - ref_count rank start.list) e in
    let i = le-div_iff_mul-le {k = t.t_refi} {x = ref_count rank start.list + 1} {y = start.clock} some in
    i.0 (omega (arith, l))

rests : (e n t last room : ℕ) → e < (n + 1) * t → n * t ≤ last → room ≤ t → e + room ≤ last + 9 * t
rests e n t last room h l f = omega (arith, h, l, f)

times_more : (e j f : ℕ) → 1 ≤ f → e + j * f ≤ e + (j + 1) * f
times_more e j f h = omega (arith, h)

refreshing_rests : (c : Checked) (start : Progress) (rank : ℕ) (p : Progress) → IsBetweenSteps c start → owes_refresh c.timing start.list start.clock rank ≡ false → IsRefreshing c start rank p → IsRefreshing c start (rank + 1) p
refreshing_rests c start rank p b none i =
    let t = c.timing in
    let room = entry_of t c.geometry + 2 * c.geometry.ranks in
    let same = i.refreshes rank (omega arith) in
    let here = rests start.clock (ref_count rank start.list) t.t_refi (last_ref rank start.list) room (owes-false t start rank c.in_limits.t_refi.0 none) (refreshes_keep_pace c.timing c.geometry rank start.list b.lawful) (entry-le c) in record {
      lawful = i.lawful;
      awake = i.awake;
      closed = i.closed;
      counts = λ r l. i.counts r (omega arith);
      refreshes = λ r l. i.refreshes r (omega arith);
      waits = λ r l. i.waits r (omega arith);
      refreshed = below_more (λ r. r < c.geometry.ranks → start.clock + room ≤ last_ref r p.list + 9 * t.t_refi) rank i.refreshed (λ _. omega (arith, here, same));
      from = i.from;
      clock = let l = i.clock in omega (arith, l);
      rest = let l = i.rest in let m = times_more start.clock rank t.t_rfc c.in_limits.t_rfc.0 in omega (arith, l, m);
      later = i.later;
      stands = i.stands;
    }

-- a rank that owes one or more

ref_at : (clock floor need : ℕ) → floor ≤ clock → need ≤ clock → max clock (max floor (max 0 need)) ≡ clock
ref_at clock floor need h l = omega arith

-- its REF goes at once
pub ref_clock : (c : Checked) (start : Progress) (rank : ℕ) (p : Progress) → owes_refresh c.timing start.list start.clock rank ≡ true → IsRefreshing c start rank p → next_clock c.timing (Ref rank) p ≡ p.clock
unfolding least_clock
ref_clock c start rank p owes i =
    let t = c.timing in
    let due = owes-true t start rank c.in_limits.t_refi.0 owes in
    let same = ap (λ (n : ℕ). (n + 1) * t.t_refi) (i.counts rank (omega arith)) in
    ref_at p.clock (floor t p.list (Ref rank)) ((ref_count rank p.list + 1) * t.t_refi) (i.waits rank (omega arith)) (omega (arith, due, same, i.from))

ref_time : (clock e j r last t : ℕ) → clock ≤ e + j → j < r → e + 2 * r ≤ last + 9 * t → clock ≤ last + 9 * t
ref_time clock e j r last t h l m = omega arith

pub may_refresh : (c : Checked) (start : Progress) (rank : ℕ) (p : Progress) → IsBetweenSteps c start → rank < c.geometry.ranks → owes_refresh c.timing start.list start.clock rank ≡ true → IsRefreshing c start rank p → MayGo c p (Ref rank)
may_refresh c start rank p b within owes i = record {
  rows = record { place = within; awake = i.awake rank within; rows = i.closed rank within };
  in_time = rw (ref_clock c start rank p owes i, i.refreshes rank (omega arith)) (ref_time p.clock start.clock rank c.geometry.ranks (last_ref rank start.list) c.timing.t_refi i.clock within (b.in_time rank within));
}

other_rank : (a b : ℕ) → a < b → a ≢ b
other_rank a b h e = absurd (omega arith)

rank_before : (a b : ℕ) → a < b → b ≢ a
rank_before a b h e = absurd (omega arith)

rest_next : (rest clock e j f : ℕ) → rest ≤ e + j * f → clock ≤ e + j → 1 ≤ f → j ≤ j * f → max rest (clock + f) ≤ e + (j + 1) * f
rest_next rest clock e j f h l s m = omega (arith, h, l, s, m)

own_time : (e k room t : ℕ) → e ≤ k → room ≤ t → e + room ≤ k + 9 * t
own_time e k room t h l = omega arith

refreshing_goes : (c : Checked) (start : Progress) (rank : ℕ) (p : Progress) → MayGo c p (Ref rank) → next_clock c.timing (Ref rank) p ≡ p.clock → IsRefreshing c start rank p → IsRefreshing c start (rank + 1) (with_earliest c.timing (Ref rank) p)
unfolding with_earliest
refreshing_goes c start rank p may at i =
    let t = c.timing in
    let g = c.geometry in
    let k = next_clock t (Ref rank) p in
    let x : Stamped = record { clock = k; cmd = Ref rank } in
    let room = entry_of t g + 2 * g.ranks in record {
      lawful = with_earliest-lawful c p (Ref rank) i.lawful may;
      awake = awake-more c p.list x refl i.awake;
      closed = λ r within. closed_push g r p.list x refl (i.closed r within);
      counts = λ r l. count_same r k p.list (Ref rank) (ref_of_other r (Ref rank) (other_rank rank r (omega arith))) ∙ i.counts r (omega arith);
      refreshes = λ r l. last_same r k p.list (Ref rank) (ref_of_other r (Ref rank) (other_rank rank r (omega arith))) ∙ i.refreshes r (omega arith);
      waits = λ r l. let f = i.waits r (omega arith) in let gap = most_gap-Ref_other t (Ref rank) r (other_rank rank r (omega arith)) in rw (floor_push t p.list x (Ref r)) (omega (arith, f, gap, at));
      refreshed = below_more (λ r. r < g.ranks → start.clock + room ≤ last_ref r (p.list ++ x ∷ []) + 9 * t.t_refi) rank
          (λ r l within. rw (last_same r k p.list (Ref rank) (ref_of_other r (Ref rank) (rank_before r rank l))) (i.refreshed r l within))
          (λ within. rw (last_next rank k p.list) (own_time start.clock k room t.t_refi (let f = i.from in omega (arith, f, at)) (entry-le c)));
      from = let f = i.from in omega (arith, f, at);
      clock = let l = i.clock in omega (arith, l, at);
      rest = rw (rest_clock_push t p.list x, at) (rest_next (rest_clock t p.list) p.clock start.clock rank t.t_rfc i.rest i.clock c.in_limits.t_rfc.0 (grind (arith, mul-le-mul_left rank c.in_limits.t_rfc.0)));
      later = rw (drain_start_push p.list x) (omega arith);
      stands = rw (drain_start_push p.list x) refl;
    }

pub refreshing_next : (c : Checked) (start : Progress) (rank : ℕ) (p : Progress) → IsBetweenSteps c start → rank < c.geometry.ranks → IsRefreshing c start rank p → IsRefreshing c start (rank + 1) (refresh_rank c.timing start rank p)
refreshing_next c start rank p b within i =
    elim (cases_Bool (owes_refresh c.timing start.list start.clock rank)) [
      | inl owes ↦ rw owes (refreshing_goes c start rank p (may_refresh c start rank p b within owes i) (ref_clock c start rank p owes i) i)
      | inr none ↦ rw none (refreshing_rests c start rank p b none i)
    ]

-- all ranks

pub refreshing_all : (c : Checked) (start : Progress) (ranks : ℕ) → IsBetweenSteps c start → ranks ≤ c.geometry.ranks → IsRefreshing c start ranks (for_each_rank (refresh_rank c.timing start) ranks start)
refreshing_all c start zero b within = none_refreshing c start b
refreshing_all c start (suc ranks) b within =
    let p = for_each_rank (refresh_rank c.timing start) ranks start in
    subst (λ (n : ℕ). IsRefreshing c start n (refresh_rank c.timing start ranks p)) (add-one ranks)
    (refreshing_next c start ranks p b (omega arith) (refreshing_all c start ranks b (omega arith)))

-- The refreshes of an entry are done: every bank has rested again.
pub record IsRefreshed (c : Checked) (start : Progress) (p : Progress) : Type 0 where
  pub lawful : IsLawful c p.list
  pub awake : AreAwake c p.list
  pub closed : AreClosed c p.list
  pub clock : p.clock ≡ max (drain_start p.list) (rest_clock c.timing p.list)
  pub short : p.clock ≤ start.clock + c.geometry.ranks * c.timing.t_rfc
  pub in_time : HaveClocks c p.list start.clock (entry_of c.timing c.geometry + 2 * c.geometry.ranks)

short_enough : (clock rest e r f : ℕ) → clock ≤ e + r → rest ≤ e + r * f → r ≤ r * f → max clock rest ≤ e + r * f
short_enough clock rest e r f h l m = omega (arith, h, l, m)

pub refreshed_all : (c : Checked) (start p : Progress) → IsRefreshing c start c.geometry.ranks p → IsRefreshed c start (after_rest c.timing p)
unfolding after_rest
refreshed_all c start p i = record {
  lawful = i.lawful;
  awake = i.awake;
  closed = i.closed;
  clock = i.stands;
  short = short_enough p.clock (rest_clock c.timing p.list) start.clock c.geometry.ranks c.timing.t_rfc i.clock i.rest (grind (arith, mul-le-mul_left c.geometry.ranks c.in_limits.t_rfc.0));
  in_time = λ rank within. i.refreshed rank within within;
}

pub refreshed : (c : Checked) (start : Progress) → IsBetweenSteps c start → IsRefreshed c start (after_refreshes c.timing c.geometry start)
unfolding after_refreshes
refreshed c start b = refreshed_all c start (for_each_rank (refresh_rank c.timing start) c.geometry.ranks start) (refreshing_all c start c.geometry.ranks b (omega arith))
