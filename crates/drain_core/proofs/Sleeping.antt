-- The SREs at a drain's end are lawful, and go one a clock.
use Rattle.std.proofs.Common.{◌≡◌, ◌≢◌, ℕ, zero, suc, ◌+◌, ◌*◌, ◌≤◌, ◌<◌, Bool, true, false, [], ◌∷◌, ◌++◌, IsTrue, arith, refl, subst, ◌∙◌, add-one, below_more}
use Rattle.drain_core.proofs.Common.{AfterSleep, AreClosed, Checked, IsBetweenSteps, IsLawful, MayGo, Sre, Stamped}
use Rattle.drain_core.proofs.Common.{floor, floor_push, is_asleep, is_asleep_push, is_sre_of, last_ref, least_clock}
use Rattle.drain_core.proofs.Common.{max, ne_eqb, or_left, or_right, ◌||◌}
use Rattle.frfcfs.proofs.refreshes.RowsClosed.{closed_push}
use Rattle.drain_core.specs.Drain.{Progress, with_earliest, next_clock, for_each_rank, after_self_refresh}
use Rattle.drain_core.proofs.Gaps.{eqb-same, gap-Sre}
use Rattle.drain_core.proofs.Rested.{floor-Sre}
use Rattle.drain_core.proofs.OneCommand.{with_earliest-lawful, last_ref-calm}
use Rattle.drain_core.proofs.Refreshing.{settled_between}

-- So many ranks had their SRE.
pub record IsSleeping (c : Checked) (start : Progress) (ranks : ℕ) (p : Progress) : Type 0 where
  pub lawful : IsLawful c p.list
  pub asleep : (rank : ℕ) → rank < ranks → IsTrue (is_asleep rank p.list)
  pub awake : (rank : ℕ) → ranks ≤ rank → rank < c.geometry.ranks → ¬ IsTrue (is_asleep rank p.list)
  pub closed : AreClosed c p.list
  pub refreshes : (rank : ℕ) → last_ref rank p.list ≡ last_ref rank start.list
  pub waits : (rank : ℕ) → floor c.timing p.list (Sre rank) ≤ p.clock
  pub clock : p.clock ≡ start.clock + ranks

none_sleeping : (c : Checked) (p : Progress) → IsBetweenSteps c p → IsSleeping c p 0 p
none_sleeping c p b = record {
  lawful = b.lawful;
  asleep = λ rank l. absurd (omega arith);
  awake = λ rank l within. b.awake rank within;
  closed = b.closed;
  refreshes = λ rank. refl;
  waits = λ rank. let f = floor-Sre c p.list rank in let s = settled_between c p b in omega (arith, f, s);
  clock = omega arith;
}

sre_at : (clock floor : ℕ) → floor ≤ clock → max clock (max floor (max 0 0)) ≡ clock
sre_at clock floor h = omega arith

pub sre_clock : (c : Checked) (start : Progress) (rank : ℕ) (p : Progress) → IsSleeping c start rank p → next_clock c.timing (Sre rank) p ≡ p.clock
unfolding least_clock
sre_clock c start rank p i = sre_at p.clock (floor c.timing p.list (Sre rank)) (i.waits rank)

sre_time : (clock e j r dead : ℕ) → clock ≡ e + j → j < r → e + 2 * r ≤ dead → clock ≤ dead
sre_time clock e j r dead h l m = omega arith

pub may_sleep : (c : Checked) (start : Progress) (rank : ℕ) (p : Progress) → IsBetweenSteps c start → rank < c.geometry.ranks → IsSleeping c start rank p → MayGo c p (Sre rank)
may_sleep c start rank p b within i = record {
  rows = record { place = within; awake = i.awake rank (omega arith) within; rows = i.closed rank within };
  in_time = rw (sre_clock c start rank p i, i.refreshes rank) (sre_time p.clock start.clock rank c.geometry.ranks _ i.clock within (b.in_time rank within));
}

stays_awake : (a b : Bool) → b ≡ false → (¬ IsTrue a) → ¬ IsTrue (a || b)
stays_awake true b e h s = h s
stays_awake false b e h s = absurd cc

other_rank : (a b : ℕ) → a < b → a ≢ b
other_rank a b h e = absurd (omega arith)

pub sleeping_next : (c : Checked) (start : Progress) (rank : ℕ) (p : Progress) → IsBetweenSteps c start → rank < c.geometry.ranks → IsSleeping c start rank p → IsSleeping c start (rank + 1) (with_earliest c.timing (Sre rank) p)
unfolding with_earliest
sleeping_next c start rank p b within i =
    let t = c.timing in
    let k = next_clock t (Sre rank) p in
    let x : Stamped = record { clock = k; cmd = Sre rank } in
    let at = sre_clock c start rank p i in record {
      lawful = with_earliest-lawful c p (Sre rank) i.lawful (may_sleep c start rank p b within i);
      asleep = below_more (λ r. IsTrue (is_asleep r (p.list ++ x ∷ []))) rank
          (λ r l. rw (is_asleep_push r p.list x) (or_left (is_asleep r p.list) (is_sre_of r (Sre rank)) (i.asleep r l)))
          (rw (is_asleep_push rank p.list x) (or_right (is_asleep rank p.list) (is_sre_of rank (Sre rank)) (eqb-same rank)));
      awake = λ r l w. rw (is_asleep_push r p.list x) (stays_awake (is_asleep r p.list) (is_sre_of r (Sre rank)) (ne_eqb rank r (other_rank rank r (omega arith))) (i.awake r (omega arith) w));
      closed = λ r w. closed_push c.geometry r p.list x refl (i.closed r w);
      refreshes = λ r. last_ref-calm r p.list x refl ∙ i.refreshes r;
      waits = λ r. let f = i.waits r in let gap = gap-Sre c (Sre rank) r in rw (floor_push t p.list x (Sre r)) (omega (arith, f, gap, at));
      clock = let l = i.clock in omega (arith, l, at);
    }

pub sleeping_all : (c : Checked) (start : Progress) (ranks : ℕ) → IsBetweenSteps c start → ranks ≤ c.geometry.ranks → IsSleeping c start ranks (for_each_rank (λ rank. with_earliest c.timing (Sre rank)) ranks start)
sleeping_all c start zero b within = none_sleeping c start b
sleeping_all c start (suc ranks) b within =
    let p = for_each_rank (λ rank. with_earliest c.timing (Sre rank)) ranks start in
    subst (λ (n : ℕ). IsSleeping c start n (with_earliest c.timing (Sre ranks) p)) (add-one ranks)
    (sleeping_next c start ranks p b (omega arith) (sleeping_all c start ranks b (omega arith)))

pub self_refresh : (c : Checked) (start : Progress) → IsBetweenSteps c start → AfterSleep c start (after_self_refresh c.timing c.geometry start)
unfolding after_self_refresh
self_refresh c start b =
    let i = sleeping_all c start c.geometry.ranks b (omega arith) in
    record { lawful = i.lawful; asleep = i.asleep; clock = i.clock }
