-- A stop at any moment of a run came within one of its events, or behind them.
use Rattle.std.proofs.lemmas.List.Elements.{Contains-append_cases, Contains-append_right}
use Rattle.std.specs.Prelude.{Contains}
use Rattle.save_device.specs.Device.{MayLeave, Moment, moments_of, present}
use Rattle.nv_machine.specs.Headline.{Happens, HappensNextBy, RunBy, paused}
use Rattle.nv_machine.specs.Lives.{IsLeftAt, LivedBy, Unanswered, moments_since}
use Rattle.nv_machine.specs.StoppedRuns.{LeaveImage, StopsAmong, SurvivesStops, stopped_life}
use Rattle.nv_machine.proofs.Common.{List, [], ap, append_assoc, refl, subst, sym, ℕ, ⊎_elim, ◌++◌, ◌∙◌, ◌∷◌, ◌≡◌, None, Some, append-nil, Gauge, AreChained, IsLived, Lived, Machine, Setup, World, Event, Reply}
use Rattle.nv_machine.proofs.Guarded.{guarded_new}
use Rattle.nv_machine.proofs.RisingMarks.{run_rises_by}
use Rattle.nv_machine.proofs.JoinedRuns.{any_run_by, happens_now_by, rests_here_by, rests_paused}
use Rattle.nv_machine.proofs.StoppedLives.{since_is}
use Rattle.nv_machine.proofs.SurvivedLives.{chain_pushed, survived_behind}

-- by a rule that lets the gauge be
module _ (G : Gauge → Gauge → Type 0) (same : (gauge : Gauge) → G gauge gauge) where
  -- A stop at any moment of a run came within one of its events, or after them.
  record Moments (setup : Setup) (events : List Event) (replies : List Reply) (old new : World) : Type 0 where
    since : List Moment
    keeps : moments_of new.device ≡ moments_of old.device ++ since
    parts : (moment : Moment) → Contains (present old.device ∷ since) moment → (bytes : List ℕ) → MayLeave moment bytes → StopsAmong G setup events replies old new bytes

  -- a stop within the first event
  cut_first : (setup : Setup) (event : Event) (events : List Event) (reply : Reply) (replies : List Reply) (old mid new : World) (bytes : List ℕ) → HappensNextBy G setup event reply old mid
      → RunBy G setup events replies mid new → IsLeftAt (moments_since old.device mid.device) bytes → StopsAmong G setup (event ∷ events) (reply ∷ replies) old new bytes
  cut_first setup event events reply replies old mid new bytes next later left =
      let unanswered : Unanswered = record { event = event; reply = reply; next = mid } in let last : World = paused next.pause old in
      record {
        front = [];
        told = [];
        last = last;
        unanswered = Some unanswered;
        rest = events;
        untold = reply ∷ replies;
        parts = refl;
        told_are = refl;
        run = rests_paused old next.pause next.may;
        goes_on = (mid, happens_now_by G same setup event reply last mid next.happens, later);
        happens = λ it is. let these : unanswered ≡ it = cc in subst (λ (x : Unanswered). Happens setup x.event x.reply last x.next) these next.happens;
        left = left;
      }

  -- a stop in a later one
  cut_later : (setup : Setup) (event : Event) (events : List Event) (reply : Reply) (replies : List Reply) (old mid new : World) (bytes : List ℕ) → HappensNextBy G setup event reply old mid
      → StopsAmong G setup events replies mid new bytes → StopsAmong G setup (event ∷ events) (reply ∷ replies) old new bytes
  cut_later setup event events reply replies old mid new bytes happens p = record {
    front = event ∷ p.front;
    told = reply ∷ p.told;
    last = p.last;
    unanswered = p.unanswered;
    rest = p.rest;
    untold = p.untold;
    parts = ap (λ (es : List Event). event ∷ es) p.parts;
    told_are = ap (λ (rs : List Reply). reply ∷ rs) p.told_are;
    run = (mid, happens, p.run);
    goes_on = p.goes_on;
    happens = p.happens;
    left = p.left;
  }

  run_moments : (setup : Setup) (events : List Event) (replies : List Reply) (old new : World) → RunBy G setup events replies old new → Moments setup events replies old new
  run_moments setup [] [] old new run = record {
    since = [];
    keeps = ap (λ (w : World). moments_of w.device) run.is ∙ sym (append-nil (moments_of old.device));
    parts = λ moment among bytes left. record {
      front = [];
      told = [];
      last = old;
      unanswered = None;
      rest = [];
      untold = [];
      parts = refl;
      told_are = refl;
      run = rests_here_by G same old;
      goes_on = run;
      happens = λ unanswered is. absurd (let bad : ⊥ = cc in bad);
      left = record { moment = moment; among = among; left = left };
    };
  }
  run_moments setup (event ∷ events) (reply ∷ replies) old new run =
      let mid : World = run.0 in let later = run_moments setup events replies mid new run.2 in let within = run.1.happens.meanwhile in
      record {
        since = within.since ++ later.since;
        keeps = later.keeps ∙ ap (λ (ms : List Moment). ms ++ later.since) within.keeps ∙ append_assoc (moments_of old.device) within.since later.since;
        parts = λ moment among bytes left.
            ⊎_elim
            (λ (here : Contains (present old.device ∷ within.since) moment).
            let is : moments_since old.device mid.device ≡ present old.device ∷ within.since = since_is old.device mid.device within.since within.keeps in
            cut_first setup event events reply replies old mid new bytes run.1 run.2 (record { moment = moment; among = subst (λ (ms : List Moment). Contains ms moment) (sym is) here; left = left }))
            (λ (there : Contains later.since moment).
            cut_later setup event events reply replies old mid new bytes run.1 (later.parts moment (Contains-append_right (present mid.device ∷ []) later.since moment there) bytes left))
            (Contains-append_cases (present old.device ∷ within.since) later.since moment among);
      }
  run_moments setup events replies old new none = absurd none

  -- a stop at any moment of a run
  pub stopped_among : (setup : Setup) (events : List Event) (replies : List Reply) (old new : World) → RunBy G setup events replies old new → (bytes : List ℕ)
      → IsLeftAt (moments_since old.device new.device) bytes → StopsAmong G setup events replies old new bytes
  stopped_among setup events replies old new run bytes left =
      let all = run_moments setup events replies old new run in
      all.parts left.moment (subst (λ (ms : List Moment). Contains ms left.moment) (since_is old.device new.device all.since all.keeps) left.among) bytes left.left

  -- it ends a life, which a restore survives
  pub stops_survived : (setup : Setup) (now : World) (so : LivedBy G setup now) → SurvivesStops G setup now so
  stops_survived setup now so lives bytes before left =
      let stop : StopsAmong G setup so.events so.replies so.first now bytes = stopped_among setup so.events so.replies so.first now so.run bytes left in
      let life : Lived = stopped_life G setup now so bytes stop in
      let lived : IsLived life = record { begins = so.begins; opened = so.opened; run = any_run_by G setup stop.front stop.told so.first stop.last stop.run; unanswered = stop.happens; left = stop.left } in
      let chained : AreChained (lives ++ life ∷ []) = behind lives before life refl refl lived in
      record { stop = stop; chained = chained; survived = survived_behind lives life chained }
    where
      behind : (lives : List Lived) → LeaveImage so.slot so.image lives → (life : Lived) → life.slot ≡ so.slot → life.image ≡ so.image → IsLived life → AreChained (lives ++ life ∷ [])
      behind [] before life slot image lived = lived
      behind (first ∷ lives) before life slot image lived = chain_pushed first lives life before.0 (rw (slot, image) before.1) lived

-- what it was opened with stands where its life does now
pub opened_as : (G : Gauge → Gauge → Type 0) (setup : Setup) (now : World) (so : LivedBy G setup now) → now.machine.life.opened ≡ so.image
opened_as G setup now so =
    (run_rises_by G setup so.events so.replies so.first now so.run (rw so.begins (guarded_new so.slot so.closed so.image))).opened ∙ ap (λ (m : Machine). m.life.opened) so.begins
