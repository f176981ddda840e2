-- Turns that follow one another, and the life that they are.
use Rattle.std.proofs.Common.{◌≡◌, ◌∙◌, ℕ, List, [], ◌∷◌, ◌++◌, refl, sym, ap, subst, None}
use Rattle.std.proofs.lemmas.List.{append-nil, append_assoc}
use Rattle.nv_session.proofs.Common.{Answers, AnswersAlone, Assembly, ComesAlone, ComesTo, DeviceState, Event, Ghosts, HasDevice, Head, IsOneEvent, Machine, Module, Reply, Setup, Tale, answered_none, assembly, none_answered_on, runs_on, set_to, setup_of}
use Rattle.slot_store.specs.Slots.{HasSize}
use Rattle.energy_budget.specs.Gauge.{Gauge}
use Rattle.nv_session.proofs.Coming.{comes_retold, one_event}
use Rattle.nv_session.proofs.SessionLives.{set_rises}
use Rattle.save_image.specs.Image.{Image}
use Rattle.save_device.specs.Device.{MayLeave, present}
use Rattle.nv_machine.proofs.SurvivedLives.{survived}
use Rattle.module_core.proofs.ModulesLive.{lives_after, lives_anywhere}
use Rattle.module_core.specs.ModuleLives.{HasAnswered, module_life}
use Rattle.module_core.specs.Opening.{opened_with}
use Rattle.module_core.specs.Stands.{ModuleStands, world_of}
use Rattle.nv_script.specs.declared.line.ScriptLine.{ScriptLine}
use Rattle.nv_script.specs.declared.line.ScriptLine.TheVariants as line
use Rattle.nv_script.specs.declared.answer.Answer.{Answer}
use Rattle.script_runner.specs.Doing.{AreEventsOf}
use Rattle.live_store.specs.declared.talk.Turn.{Turn}
use Rattle.live_store.specs.Lives.{AreOfLine, AreOfTurns, GoesTo, LivesBy, SurvivesTurns, TakesTurn, TakesTurns, charged}

module _ {K : Type 0} (L : Ghosts K) where
  -- the same events, of which something else is told too
  pub goes_retold : (Told Next : Setup → Tale) (old new : Assembly L) → ((setup : Setup) (es : List Event) (rs : List Reply) (m n : Machine) → Told setup es rs m n → Next setup es rs m n)
      → GoesTo L Told old new → GoesTo L Next old new
  goes_retold Told Next old new tells goes = record {
    comes = comes_retold L (Told (setup_of L old.it)) (Next (setup_of L old.it)) old new goes.comes (tells (setup_of L old.it));
    setup = goes.setup;
  }

  -- the same turn, by other names
  pub turn_as : (asked line : ScriptLine) (given said : Answer) (old new : Assembly L) → asked ≡ line → given ≡ said → TakesTurn L line said old new → TakesTurn L asked given old new
  turn_as asked line given said old new is told takes =
      subst (λ (l : ScriptLine). TakesTurn L l given old new) (sym is) (subst (λ (a : Answer). TakesTurn L line a old new) (sym told) takes)

  -- one event
  pub goes_once : (event : Event) (reply : Reply) (old new : Assembly L) → Answers L event reply old new → setup_of L new.it ≡ setup_of L old.it → GoesTo L (λ setup. IsOneEvent event reply) old new
  goes_once event reply old new answers same = record { comes = one_event L event reply old new answers; setup = same }

  pub goes_alone : (Told : Setup → Tale) (it later : Module K L) (device : DeviceState) (gauge : Gauge) → ComesAlone L (Told (setup_of L it)) it later → setup_of L later ≡ setup_of L it
      → GoesTo L Told (assembly it device gauge) (assembly later device gauge)
  goes_alone Told it later device gauge comes same = record { comes = comes device gauge; setup = same }

  pub goes_once_alone : (event : Event) (reply : Reply) (it later : Module K L) (device : DeviceState) (gauge : Gauge) → AnswersAlone L event reply it later → setup_of L later ≡ setup_of L it
      → GoesTo L (λ setup. IsOneEvent event reply) (assembly it device gauge) (assembly later device gauge)
  goes_once_alone event reply it later device gauge answers same = goes_once event reply (assembly it device gauge) (assembly later device gauge) (answers device gauge) same

  -- a device that has the size for a module has it for each of this setup
  pub still_sized : (it later : Module K L) (device : DeviceState) → setup_of L later ≡ setup_of L it → HasDevice L it device → HasDevice L later device
  still_sized it later device same size = subst (λ (s : Setup). HasSize s.shape.lines device) (sym same) size

  pub still_channels : (it later : Module K L) (channels : ℕ) → setup_of L later ≡ setup_of L it → channels ≡ (setup_of L it).shape.channels → channels ≡ (setup_of L later).shape.channels
  still_channels it later channels same is = is ∙ ap (λ (s : Setup). s.shape.channels) (sym same)

  -- a module stands so, by other names
  pub stands_as : (it other : Module K L) (device there : DeviceState) (m : Machine) → other ≡ it → there ≡ device → ModuleStands L it device m → ModuleStands L other there m
  stands_as it other device there m same at stands = subst (λ (d : DeviceState). ModuleStands L other d m) (sym at) (subst (λ (l : Module K L). ModuleStands L l device m) (sym same) stands)

  -- turns behind others
  pub turns_joined : (turns more : List Turn) (old mid new : Assembly L) → TakesTurns L turns old mid → TakesTurns L more mid new → TakesTurns L (turns ++ more) old new
  turns_joined [] more old mid new same takes = subst (λ (at : Assembly L). TakesTurns L more at new) same takes
  turns_joined (turn ∷ turns) more old mid new first takes = (first.0, first.1, turns_joined turns more first.0 mid new first.2 takes)

  pub one_turn : (turn : Turn) (old new : Assembly L) → TakesTurn L turn.asked turn.answer old new → TakesTurns L (turn ∷ []) old new
  one_turn turn old new takes = (new, takes, refl)

  module _ (found : Head) (image : Image) (first : Assembly L) where
    -- what a life has answered behind these events and replies
    record Answered (events : List Event) (replies : List Reply) (Of : List Event → List Reply → Type 0) (now : Assembly L) : Type 0 where
      more : List Event
      others : List Reply
      of : Of more others
      answered : HasAnswered L found image (events ++ more) (replies ++ others) first now

    goes_on : (asked : ScriptLine) (given : Answer) (events : List Event) (replies : List Reply) (old new : Assembly L) → HasAnswered L found image events replies first old
        → GoesTo L (AreEventsOf asked given) old new
        → Answered events replies (λ es rs. (before : Machine) × (after : Machine) × AreEventsOf asked given (setup_of L first.it) es rs before after) new
    goes_on asked given events replies old new answered goes =
        let a = answered.runs in let c : ComesTo L (AreEventsOf asked given (setup_of L old.it)) old a.last new = goes.comes a.last a.stands in
        record {
          more = c.events;
          others = c.replies;
          of = (a.last, c.runs.last, subst (λ (s : Setup). AreEventsOf asked given s c.events c.replies a.last c.runs.last) answered.setup c.told);
          answered = record {
            begins = answered.begins;
            runs = runs_on L events c.events replies c.replies first _ old new answered.setup a c.runs;
            setup = goes.setup ∙ answered.setup;
          };
        }

    rests : (events : List Event) (replies : List Reply) (old new : Assembly L) → HasAnswered L found image events replies first old → new ≡ old
        → HasAnswered L found image (events ++ []) (replies ++ []) first new
    rests events replies old new answered same =
        subst (λ (at : Assembly L). HasAnswered L found image (events ++ []) (replies ++ []) first at) (sym same)
        (subst (λ (es : List Event). HasAnswered L found image es (replies ++ []) first old) (sym (append-nil events))
        (subst (λ (rs : List Reply). HasAnswered L found image events rs first old) (sym (append-nil replies)) answered))

    turn_lives : (asked : ScriptLine) (given : Answer) (events : List Event) (replies : List Reply) (old new : Assembly L) → HasAnswered L found image events replies first old
        → TakesTurn L asked given old new → Answered events replies (AreOfLine L (setup_of L first.it) asked given) new
    turn_lives line.Mark given events replies old new answered takes = record { more = []; others = []; of = (refl, refl); answered = rests events replies old new answered takes.1 }
    turn_lives (line.Sense level) given events replies old new answered takes =
        goes_on (line.Sense level) given events replies (charged (line.Sense level) old) new
        (none_answered_on L found image events replies first old (set_to level old.gauge) (set_rises level old.gauge) answered) takes.0
    turn_lives line.Format given events replies old new answered takes = goes_on line.Format given events replies old new answered takes
    turn_lives (line.Write write) given events replies old new answered takes = goes_on (line.Write write) given events replies old new answered takes
    turn_lives (line.Read at) given events replies old new answered takes = goes_on (line.Read at) given events replies old new answered takes
    turn_lives (line.Work channel most) given events replies old new answered takes = goes_on (line.Work channel most) given events replies old new answered takes
    turn_lives line.Arm given events replies old new answered takes = goes_on line.Arm given events replies old new answered takes
    turn_lives line.Disarm given events replies old new answered takes = goes_on line.Disarm given events replies old new answered takes
    turn_lives line.Save given events replies old new answered takes = goes_on line.Save given events replies old new answered takes
    turn_lives line.Step given events replies old new answered takes = goes_on line.Step given events replies old new answered takes
    turn_lives line.Lose given events replies old new answered takes = goes_on line.Lose given events replies old new answered takes
    turn_lives (line.Lie units) given events replies old new answered takes = goes_on (line.Lie units) given events replies old new answered takes
    turn_lives (line.Fuse calls) given events replies old new answered takes = goes_on (line.Fuse calls) given events replies old new answered takes
    turn_lives (line.OneFault call) given events replies old new answered takes = goes_on (line.OneFault call) given events replies old new answered takes
    turn_lives (line.Restore pick map) given events replies old new answered takes = goes_on (line.Restore pick map) given events replies old new answered takes

    turns_live : (turns : List Turn) (events : List Event) (replies : List Reply) (old now : Assembly L) → HasAnswered L found image events replies first old
        → TakesTurns L turns old now → Answered events replies (AreOfTurns L (setup_of L first.it) turns) now
    turns_live [] events replies old now answered takes = record { more = []; others = []; of = (refl, refl); answered = rests events replies old now answered takes }
    turns_live (turn ∷ turns) events replies old now answered takes =
        let one = turn_lives turn.asked turn.answer events replies old takes.0 answered takes.1 in
        let all = turns_live turns (events ++ one.more) (replies ++ one.others) takes.0 now one.answered takes.2 in
        record {
          more = one.more ++ all.more;
          others = one.others ++ all.others;
          of = (one.more, all.more, one.others, all.others, one.of, all.of, refl, refl);
          answered = subst (λ (es : List Event). HasAnswered L found image es (replies ++ (one.others ++ all.others)) first now) (append_assoc events one.more all.more)
              (subst (λ (rs : List Reply). HasAnswered L found image ((events ++ one.more) ++ all.more) rs first now) (append_assoc replies one.others all.others) all.answered);
        }

    pub lives_by_turns : (turns : List Turn) (now : Assembly L) → ModuleStands L first.it first.device (opened_with found image) → TakesTurns L turns first now → LivesBy L found image turns first now
    lives_by_turns turns now stands takes =
        let all = turns_live turns [] [] first now (answered_none L found image first stands) takes in
        record {
          events = all.more;
          replies = all.others;
          of = all.of;
          answered = all.answered;
          survives = λ bytes left.
              let ends = lives_anywhere L found image all.more all.others first now all.answered bytes left in
              record { ends = ends; survived = survived (module_life L found image ends.front ends.told first ends.last ends.unanswered bytes) [] ends.lived };
        }

    pub turns_survived : (turns : List Turn) (now : Assembly L) (bytes : List ℕ) → ModuleStands L first.it first.device (opened_with found image) → TakesTurns L turns first now
        → MayLeave (present now.device) bytes → SurvivesTurns L found image turns first now bytes
    turns_survived turns now bytes stands takes left =
        let all = turns_live turns [] [] first now (answered_none L found image first stands) takes in
        let ends = lives_after L found image all.more all.others first now all.answered bytes left in
        record {
          events = all.more;
          replies = all.others;
          of = all.of;
          ends = ends;
          survived = survived (module_life L found image all.more all.others first (world_of L now ends.last) None bytes) [] ends.lived;
        }
