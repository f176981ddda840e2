-- Calls of a module in turn answer the list of their events.
use Rattle.energy_budget.proofs.Charging.{rises_none}
use Rattle.energy_budget.specs.Charging.{RisesTo}
use Rattle.module_core.specs.ModuleLives.{HasAnswered, LifeSoFar}
use Rattle.module_core.specs.Opening.{opened_with}
use Rattle.slot_store.specs.declared.head.Head.{Head}
use Rattle.nv_machine.specs.Headline.{RecoversAfterwards}
use Rattle.module_core.specs.InTurn.{AnswersCall, AnswersCalls, IsCharged}
use Rattle.channel_set.specs.declared.set.ChannelSet.{ChannelSet}
use Rattle.module_core.specs.declared.opening.LifeTerms.{LifeTerms}
use Rattle.module_core.specs.Stands.{IsCut, Point, RunAt, RunsTo}
use Rattle.module_core.proofs.Common.{[], ◌++◌, ◌∙◌, ◌∷◌, ◌≡◌, append-nil, Assembly, DeviceState, Event, Gauge, Ghosts, Image, List, Machine, Module, ModuleStands, Reply, Setup, StopsWithin, ap, assembly, point_of, shape_of, present, refl, restored, setup_of, subst, sym}
use Rattle.module_core.proofs.RunsOn.{cut_answered, join_runs, none_answered, one_run}

module _ {K : Type 0} (L : Ghosts K) where
  pub rests_in_turn : (old new : Assembly L) → IsCharged L old new → AnswersCalls L [] [] old new
  rests_in_turn old new charged =
      subst (λ (a : Assembly L). AnswersCalls L [] [] old a) (sym charged.is)
      (record { answers = none_answered L old.it old.device old.gauge new.gauge charged.gauge; setup = refl })

  pub cut_setup : (old new : Module K L) → IsCut L old new → setup_of L new ≡ setup_of L old
  cut_setup old new cut =
      ap (λ (c : ChannelSet K L). record { shape = shape_of L c; trail = new.front.terms.trail }) cut.channels
      ∙ ap (λ (t : LifeTerms). record { shape = shape_of L old.channels; trail = t.trail }) cut.terms

  pub cuts_in_turn : (old new : Module K L) (device : DeviceState) (gauge : Gauge) → IsCut L old new → AnswersCalls L [] [] (assembly old device gauge) (assembly new device gauge)
  cuts_in_turn old new device gauge cut = record {
    answers = cut_answered L old new device gauge cut;
    setup = cut_setup old new cut;
  }

  pub calls_in_turn : (event : Event) (reply : Reply) (old new : Assembly L) → AnswersCall L event reply old new → AnswersCalls L (event ∷ []) (reply ∷ []) old new
  calls_in_turn event reply old new call = record {
    answers = λ m stands.
        let after = call.answers m stands in
        record {
          last = after.0;
          stands = after.1;
          run = one_run L (setup_of L old.it) event reply (point_of L old m) (point_of L new after.0) after.2;
          left = after.2.happens.at_end;
        };
    setup = call.setup;
  }

  -- a run of a module, and one that goes on from where it ended
  pub runs_on : (events more : List Event) (replies others : List Reply) (old : Assembly L) (m : Machine) (mid new : Assembly L) → setup_of L mid.it ≡ setup_of L old.it
      → (a : RunsTo L events replies old m mid) → RunsTo L more others mid a.last new → RunsTo L (events ++ more) (replies ++ others) old m new
  runs_on events more replies others old m mid new same a b =
      let from : Point L = point_of L old m in let middle : Point L = point_of L mid a.last in let to : Point L = point_of L new b.last in
      let rest : RunAt L (setup_of L old.it) more others middle to = subst (λ (s : Setup). RunAt L s more others middle to) same b.run in
      record {
        last = b.last;
        stands = b.stands;
        run = join_runs L (setup_of L old.it) events replies more others from middle to a.run rest;
        left = subst (λ (s : Setup). StopsWithin (λ bytes. RecoversAfterwards b.last (restored s.shape.lines bytes)) (present new.device)) same b.left;
      }

  pub goes_on_in_turn : (events more : List Event) (replies others : List Reply) (old mid new : Assembly L) → AnswersCalls L events replies old mid → AnswersCalls L more others mid new
      → AnswersCalls L (events ++ more) (replies ++ others) old new
  goes_on_in_turn events more replies others old mid new first then' = record {
    answers = λ m stands. let a : RunsTo L events replies old m mid = first.answers m stands in runs_on events more replies others old m mid new first.setup a (then'.answers a.last a.stands);
    setup = then'.setup ∙ first.setup;
  }

  -- a life, and calls that go on from where it stands
  pub answered_on : (found : Head) (image : Image) (events more : List Event) (replies others : List Reply) (first old new : Assembly L) → HasAnswered L found image events replies first old
      → AnswersCalls L more others old new → HasAnswered L found image (events ++ more) (replies ++ others) first new
  answered_on found image events more replies others first old new answered calls = record {
    begins = answered.begins;
    runs = let a = answered.runs in runs_on events more replies others first (opened_with found image) old new answered.setup a (calls.answers a.last a.stands);
    setup = calls.setup ∙ answered.setup;
  }

  -- a life begins
  pub answered_none : (found : Head) (image : Image) (first : Assembly L) → ModuleStands L first.it first.device (opened_with found image) → HasAnswered L found image [] [] first first
  answered_none found image first stands = record {
    begins = stands;
    runs = none_answered L first.it first.device first.gauge first.gauge (rises_none first.gauge) (opened_with found image) stands;
    setup = refl;
  }

  -- and its gauge is charged
  pub none_answered_on : (found : Head) (image : Image) (events : List Event) (replies : List Reply) (first old : Assembly L) (charged : Gauge) → RisesTo old.gauge charged
      → HasAnswered L found image events replies first old → HasAnswered L found image events replies first (record old { gauge = charged })
  none_answered_on found image events replies first old charged rises answered =
      let new : Assembly L = record old { gauge = charged } in
      let whole = answered_on found image events [] replies [] first old new answered (rests_in_turn old new (record { gauge = rises; is = refl })) in
      subst (λ (es : List Event). HasAnswered L found image es replies first new) (append-nil events)
      (subst (λ (rs : List Reply). HasAnswered L found image (events ++ []) rs first new) (append-nil replies) whole)

  -- a life so far: it begins, goes on, and its gauge is charged
  pub life_begins : (found : Head) (image : Image) (first : Assembly L) → ModuleStands L first.it first.device (opened_with found image) → LifeSoFar L first
  life_begins found image first stands = record { found = found; image = image; events = []; replies = []; first = first; answered = answered_none found image first stands }

  pub life_on : (old new : Assembly L) (so : LifeSoFar L old) (more : List Event) (others : List Reply) → setup_of L new.it ≡ setup_of L old.it
      → RunsTo L more others old so.answered.runs.last new → LifeSoFar L new
  life_on old new so more others same runs = record {
    found = so.found;
    image = so.image;
    events = so.events ++ more;
    replies = so.replies ++ others;
    first = so.first;
    answered = record {
      begins = so.answered.begins;
      runs = runs_on so.events more so.replies others so.first (opened_with so.found so.image) old new so.answered.setup so.answered.runs runs;
      setup = same ∙ so.answered.setup;
    };
  }

  pub life_charged : (old : Assembly L) (charged : Gauge) → RisesTo old.gauge charged → LifeSoFar L old → LifeSoFar L (record old { gauge = charged })
  life_charged old charged rises so = record {
    found = so.found;
    image = so.image;
    events = so.events;
    replies = so.replies;
    first = so.first;
    answered = none_answered_on so.found so.image so.events so.replies so.first old charged rises so.answered;
  }
