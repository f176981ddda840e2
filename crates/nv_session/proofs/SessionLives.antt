-- What the calls of a session come to is events of a life; and setting the gauge's level charges it, or counts a fault.
use Rattle.std.proofs.Common.{◌≡◌, ◌∙◌, ℕ, ◌+◌, ◌≤◌, Bool, true, false, List, [], Option, Some, arith, refl, subst}
use Rattle.std.specs.Prelude.{MatchOption, nat_lt, if◌then◌else◌}
use Rattle.std.proofs.lemmas.Bool.{ltb-false}
use Rattle.nv_session.proofs.Common.{Assembly, ComesTo, Event, Ghosts, GoesOnBy, Head, LivesOn, Module}
use Rattle.nv_session.proofs.Common.{Outcome, Reply, Revives, SessionAt, Setup, Tale, answered_none, assembly}
use Rattle.nv_session.proofs.Common.{none_answered_on, runs_on, session_at, set_to, setup_of}
use Rattle.save_image.specs.Image.{Image}
use Rattle.energy_budget.specs.Gauge.{Gauge}
use Rattle.energy_budget.specs.Charging.{RisesTo}
use Rattle.nv_machine.proofs.SurvivedLives.{survived}
use Rattle.module_core.proofs.ModulesLive.{lives_anywhere}
use Rattle.module_core.specs.ModuleLives.{EndsAmongEvents, module_life}
use Rattle.nv_session.specs.SessionLives.{HasLived, HasLivedOn, SurvivesAnyStop}

pub set_rises : (level : ℕ) (gauge : Gauge) → RisesTo gauge (set_to level gauge)
set_rises level gauge = record { rises = by_test (nat_lt level gauge.level) refl; counted = omega arith; same_leak = refl; unasked = refl }
  where
    by_test : (b : Bool) → nat_lt level gauge.level ≡ b → gauge.faults + (if b then 1 else 0) ≡ gauge.faults → gauge.level ≤ level
    by_test true is same = absurd (let bad : ⊥ = omega (arith, same) in bad)
    by_test false is same = ltb-false level gauge.level is

module _ {K : Type 0} (L : Ghosts K) where
  -- a restore begins a life
  pub begins_life : (restores : Outcome) (found : Head) (now : Assembly L) (revives : Revives L restores found now.it now.device)
      → HasLived L found revives.image [] [] now (session_at (Some now.it) now.device now.gauge)
  begins_life restores found now revives = record { it = now.it; runs = refl; answered = answered_none L found revives.image now revives.stands }

  module _ (found : Head) (image : Image) (events : List Event) (replies : List Reply) (first : Assembly L) where
    -- a call goes on with it
    pub lives_on : (Told : Setup → Tale) (old new : SessionAt L) → GoesOnBy L Told old new → (lived : HasLived L found image events replies first old)
        → HasLivedOn L (Told (setup_of L lived.it)) found image events replies first new
    lives_on Told old new goes lived =
        let it : Module K L = lived.it in let from : Assembly L = assembly it old.device old.gauge in let a = lived.answered.runs in
        let lives : LivesOn L Told it old new = subst (λ (life : Option (Module K L)). MatchOption life (new ≡ old) (λ it. LivesOn L Told it old new)) lived.runs goes in
        let to : Assembly L = assembly lives.it new.device new.gauge in let c : ComesTo L (Told (setup_of L it)) from a.last to = lives.holds a.last a.stands in
        record {
          more = c.events;
          others = c.replies;
          before = a.last;
          after = c.runs.last;
          told = c.told;
          lived = record {
            it = lives.it;
            runs = lives.runs;
            answered = record {
              begins = lived.answered.begins;
              runs = runs_on L events c.events replies c.replies first _ from to lived.answered.setup a c.runs;
              setup = lives.over ∙ lived.answered.setup;
            };
          };
        }

    -- so does a level that is set between two calls
    pub lives_charged : (level : ℕ) (at : SessionAt L) → HasLived L found image events replies first at → HasLived L found image events replies first (record at { gauge = set_to level at.gauge })
    lives_charged level at lived = record {
      it = lived.it;
      runs = lived.runs;
      answered = none_answered_on L found image events replies first (assembly lived.it at.device at.gauge) (set_to level at.gauge) (set_rises level at.gauge) lived.answered;
    }

    -- and a stop at any of its moments ends a life of the headline
    pub survives : (at : SessionAt L) → SurvivesAnyStop L found image events replies first at
    survives at lived bytes left =
        let now : Assembly L = assembly lived.it at.device at.gauge in
        let ends : EndsAmongEvents L found image events replies first now bytes = lives_anywhere L found image events replies first now lived.answered bytes left in
        record { ends = ends; survived = survived (module_life L found image ends.front ends.told first ends.last ends.unanswered bytes) [] ends.lived }
