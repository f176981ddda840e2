-- A life whose calls were handed whatever gauges.
use Rattle.slot_store.specs.declared.head.Head.{Head}
use Rattle.nv_machine.proofs.JoinedRuns.{any_run, any_same, join_any, rests_here_by}
use Rattle.nv_machine.proofs.StoppedRuns.{stopped_among}
use Rattle.nv_machine.proofs.SurvivedLives.{survived}
use Rattle.nv_machine.specs.Headline.{AnyGauge, AnyRun, RestsBy}
use Rattle.nv_machine.specs.Lives.{IsLeftAt, IsLived, Lived, moments_since}
use Rattle.nv_machine.specs.StoppedRuns.{StopsAmong}
use Rattle.module_core.specs.InTurn.{AnswersCalls}
use Rattle.module_core.specs.ModuleLives.{HasAnsweredByAny, SurvivesByAny, module_life}
use Rattle.module_core.specs.Opening.{opened_with}
use Rattle.module_core.specs.Stands.{RunsTo}
use Rattle.module_core.proofs.Common.{[], ℕ, ◌++◌, ◌∙◌, append-nil, Assembly, Event, Gauge, Ghosts, Image, List, ModuleStands, Reply, Setup, World, point_of, refl, setup_of, subst, world_of}
use Rattle.module_core.proofs.ModulesLive.{opened_on}
use Rattle.module_core.proofs.RunsOn.{run_worlds}

module _ {K : Type 0} (L : Ghosts K) where
  pub begins_by_any : (found : Head) (image : Image) (first : Assembly L) → ModuleStands L first.it first.device (opened_with found image) → HasAnsweredByAny L found image [] [] first first
  begins_by_any found image first stands = record {
    begins = stands;
    last = opened_with found image;
    stands = stands;
    run = rests_here_by AnyGauge any_same (world_of L first (opened_with found image));
    setup = refl;
  }

  pub calls_by_any : (found : Head) (image : Image) (events more : List Event) (replies others : List Reply) (first old new : Assembly L) → HasAnsweredByAny L found image events replies first old
      → AnswersCalls L more others old new → HasAnsweredByAny L found image (events ++ more) (replies ++ others) first new
  calls_by_any found image events more replies others first old new lived calls =
      let next : RunsTo L more others old lived.last new = calls.answers lived.last lived.stands in
      let from : World = world_of L old lived.last in let to : World = world_of L new next.last in
      let later : AnyRun (setup_of L old.it) more others from to =
      any_run (setup_of L old.it) more others from to (run_worlds L (setup_of L old.it) more others (point_of L old lived.last) (point_of L new next.last) next.run) in
      record {
        begins = lived.begins;
        last = next.last;
        stands = next.stands;
        run = join_any (setup_of L first.it) events replies more others (world_of L first (opened_with found image)) from to lived.run
            (subst (λ (s : Setup). AnyRun s more others from to) lived.setup later);
        setup = calls.setup ∙ lived.setup;
      }

  pub other_gauge : (found : Head) (image : Image) (events : List Event) (replies : List Reply) (first old : Assembly L) (other : Gauge) → HasAnsweredByAny L found image events replies first old
      → HasAnsweredByAny L found image events replies first (record old { gauge = other })
  other_gauge found image events replies first old other lived =
      let from : World = world_of L old lived.last in let to : World = record from { gauge = other } in
      let rests : RestsBy AnyGauge from to = record { may = record { gauge = tt; cut = (rests_here_by AnyGauge any_same from).may.cut }; is = refl } in
      record {
        begins = lived.begins;
        last = lived.last;
        stands = lived.stands;
        run = subst (λ (es : List Event). AnyRun (setup_of L first.it) es replies (world_of L first (opened_with found image)) to) (append-nil events)
            (subst (λ (rs : List Reply). AnyRun (setup_of L first.it) (events ++ []) rs (world_of L first (opened_with found image)) to) (append-nil replies)
            (join_any (setup_of L first.it) events replies [] [] (world_of L first (opened_with found image)) from to lived.run rests));
        setup = lived.setup;
      }

  pub survives_by_any : (found : Head) (image : Image) (events : List Event) (replies : List Reply) (first now : Assembly L) (lived : HasAnsweredByAny L found image events replies first now)
      (bytes : List ℕ) → IsLeftAt (moments_since first.device now.device) bytes → SurvivesByAny L found image events replies first (world_of L now lived.last) bytes
  survives_by_any found image events replies first now lived bytes left =
      let begun : World = world_of L first (opened_with found image) in
      let stop : StopsAmong AnyGauge (setup_of L first.it) events replies begun (world_of L now lived.last) bytes =
      stopped_among AnyGauge any_same (setup_of L first.it) events replies begun (world_of L now lived.last) lived.run bytes left in
      let life : Lived = module_life L found image stop.front stop.told first stop.last stop.unanswered bytes in
      let is : IsLived life = record { begins = refl; opened = opened_on L found image first.it first.device lived.begins; run = stop.run; unanswered = stop.happens; left = stop.left } in
      record { stop = stop; survived = survived life [] is }
