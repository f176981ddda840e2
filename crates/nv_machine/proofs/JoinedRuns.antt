-- Events in turn, and others that go on from their end.
use Rattle.std.proofs.lemmas.Bool.{cases_lt}
use Rattle.energy_budget.proofs.Charging.{rises_none, rises_twice}
use Rattle.energy_budget.specs.Charging.{RisesTo}
use Rattle.nv_machine.specs.Headline.{AnyGauge, AnyRun, Happens, HappensNext, HappensNextBy, MayCut, MayPause, MayPauseBy, Pause, Rests, RestsBy, RunBy, RunOf, pause_at, paused}
use Rattle.nv_machine.proofs.Common.{List, [], ap, arith, refl, subst, ⊎_elim, ℕ, ◌++◌, ◌∙◌, ◌∷◌, ◌≤◌, Machine, newest_of, Gauge, Run, Setup, World, Event, Reply}

-- a run, and one that goes on from its end: what is between the two may stand before the next event
module _ {P : Type 0} (Between : P → P → Type 0) (Goes : Event → Reply → P → P → Type 0) (twice : (a b c : P) → Between a b → Between b c → Between a c)
    (later : (event : Event) (reply : Reply) (a b c : P) → Between a b → Goes event reply b c → Goes event reply a c) where
  pub join_runs_of : (events : List Event) (replies : List Reply) (more : List Event) (others : List Reply) (old mid new : P)
      → RunOf Between Goes events replies old mid → RunOf Between Goes more others mid new → RunOf Between Goes (events ++ more) (replies ++ others) old new
  join_runs_of [] [] [] [] old mid new run next = twice old mid new run next
  join_runs_of [] [] (e ∷ more) (r ∷ others) old mid new run next = (next.0, later e r old mid next.0 run next.1, next.2)
  join_runs_of (e ∷ events) (r ∷ replies) more others old mid new run next = (run.0, run.1, join_runs_of events replies more others run.0 mid new run.2 next)
  join_runs_of [] [] [] (r ∷ others) old mid new run none = absurd none
  join_runs_of [] [] (e ∷ more) [] old mid new run none = absurd none
  join_runs_of [] (r ∷ replies) more others old mid new none next = absurd none
  join_runs_of (e ∷ events) [] more others old mid new none next = absurd none

-- a moment, and the same one with other stored writes
pub cut_stays : (m : Machine) → MayCut m m.cut
cut_stays m = record { rises = omega arith; most = λ less. absurd (omega (arith, less)) }

-- two cuts in turn are one
cut_twice : (m : Machine) (first second : ℕ) → MayCut m first → MayCut (record m { cut = first }) second → MayCut m second
cut_twice m first second one two = record {
  rises = omega (arith, one.rises, two.rises);
  most = λ less. ⊎_elim two.most (λ least. let here : first ≤ (newest_of m).count = one.most (omega (arith, less, least)) in omega (arith, here, least)) (cases_lt first second);
}

-- by a rule that lets the gauge be
module _ (G : Gauge → Gauge → Type 0) (same : (gauge : Gauge) → G gauge gauge) where
  pub no_pause_by : (w : World) → MayPauseBy G w (pause_at w)
  no_pause_by w = record { gauge = same w.gauge; cut = cut_stays w.machine }

  pub rests_here_by : (w : World) → RestsBy G w w
  rests_here_by w = record { may = no_pause_by w; is = refl }

  -- an event without a pause before it
  pub happens_now_by : (setup : Setup) (event : Event) (reply : Reply) (old new : World) → Happens setup event reply old new → HappensNextBy G setup event reply old new
  happens_now_by setup event reply old new happens = record { pause = pause_at old; may = no_pause_by old; happens = happens }

-- by a rule that two pauses in turn keep
module _ (G : Gauge → Gauge → Type 0) (twice : (a b c : Gauge) → G a b → G b c → G a c) where
  pub pause_twice_by : (a : World) (first second : Pause) → MayPauseBy G a first → MayPauseBy G (paused first a) second → MayPauseBy G a second
  pause_twice_by a first second one two = record {
    gauge = twice a.gauge first.gauge second.gauge one.gauge two.gauge;
    cut = cut_twice a.machine first.cut second.cut one.cut two.cut;
  }

  pub rests_twice_by : (a b c : World) → RestsBy G a b → RestsBy G b c → RestsBy G a c
  rests_twice_by a b c first second = record {
    may = pause_twice_by a (pause_at b) (pause_at c) first.may (subst (λ (w : World). MayPauseBy G w (pause_at c)) first.is second.may);
    is = second.is ∙ ap (λ (w : World). paused (pause_at c) w) first.is;
  }

  -- there was a pause some time before the next event
  pub happens_later_by : (setup : Setup) (event : Event) (reply : Reply) (old mid new : World) → RestsBy G old mid → HappensNextBy G setup event reply mid new → HappensNextBy G setup event reply old new
  happens_later_by setup event reply old mid new rests next = record {
    pause = next.pause;
    may = pause_twice_by old (pause_at mid) next.pause rests.may (subst (λ (w : World). MayPauseBy G w next.pause) rests.is next.may);
    happens = subst (λ (w : World). Happens setup event reply (paused next.pause w) new) rests.is next.happens;
  }

  pub join_runs_by : (setup : Setup) (events : List Event) (replies : List Reply) (more : List Event) (others : List Reply) (old mid new : World)
      → RunBy G setup events replies old mid → RunBy G setup more others mid new → RunBy G setup (events ++ more) (replies ++ others) old new
  join_runs_by setup = join_runs_of (RestsBy G) (HappensNextBy G setup) rests_twice_by (happens_later_by setup)

-- a run by any rule is one with whatever gauges
pub any_run_by : (G : Gauge → Gauge → Type 0) (setup : Setup) (events : List Event) (replies : List Reply) (old new : World) → RunBy G setup events replies old new → AnyRun setup events replies old new
any_run_by G setup [] [] old new run = record { may = record { gauge = tt; cut = run.may.cut }; is = run.is }
any_run_by G setup (event ∷ events) (reply ∷ replies) old new run =
    (run.0, record { pause = run.1.pause; may = record { gauge = tt; cut = run.1.may.cut }; happens = run.1.happens }, any_run_by G setup events replies run.0 new run.2)
any_run_by G setup [] (reply ∷ replies) old new none = absurd none
any_run_by G setup (event ∷ events) [] old new none = absurd none

pub any_run : (setup : Setup) (events : List Event) (replies : List Reply) (old new : World) → Run setup events replies old new → AnyRun setup events replies old new
any_run = any_run_by RisesTo

pub any_same : (gauge : Gauge) → AnyGauge gauge gauge
any_same gauge = tt

any_twice : (a b c : Gauge) → AnyGauge a b → AnyGauge b c → AnyGauge a c
any_twice a b c first second = tt

pub join_any : (setup : Setup) (events : List Event) (replies : List Reply) (more : List Event) (others : List Reply) (old mid new : World)
    → AnyRun setup events replies old mid → AnyRun setup more others mid new → AnyRun setup (events ++ more) (replies ++ others) old new
join_any = join_runs_by AnyGauge any_twice

-- one gauge, which may be charged
pub no_pause : (w : World) → MayPause w (pause_at w)
no_pause = no_pause_by RisesTo rises_none

pub charged_only : (w : World) (gauge : Gauge) → RisesTo w.gauge gauge → MayPause w (record { gauge = gauge; cut = w.machine.cut })
charged_only w gauge rises = record { gauge = rises; cut = cut_stays w.machine }

pub rests_here : (w : World) → Rests w w
rests_here = rests_here_by RisesTo rises_none

pub rests_paused : {G : Gauge → Gauge → Type 0} (w : World) (pause : Pause) → MayPauseBy G w pause → RestsBy G w (paused pause w)
rests_paused w pause may = record { may = may; is = refl }

pub pause_twice : (a : World) (first second : Pause) → MayPause a first → MayPause (paused first a) second → MayPause a second
pause_twice = pause_twice_by RisesTo rises_twice

pub happens_now : (setup : Setup) (event : Event) (reply : Reply) (old new : World) → Happens setup event reply old new → HappensNext setup event reply old new
happens_now = happens_now_by RisesTo rises_none

pub join_runs : (setup : Setup) (events : List Event) (replies : List Reply) (more : List Event) (others : List Reply) (old mid new : World)
    → Run setup events replies old mid → Run setup more others mid new → Run setup (events ++ more) (replies ++ others) old new
join_runs = join_runs_by RisesTo rises_twice

pub rests_twice : (a b c : World) → Rests a b → Rests b c → Rests a c
rests_twice = rests_twice_by RisesTo rises_twice

pub happens_later : (setup : Setup) (event : Event) (reply : Reply) (old mid new : World) → Rests old mid → HappensNext setup event reply mid new → HappensNext setup event reply old new
happens_later = happens_later_by RisesTo rises_twice
