-- A life on a device, and how its answers to lines are those of its events.
use Rattle.std.specs.Prelude.{◌≡◌, ℕ, Bool, true, false, List, [], ◌∷◌, ◌++◌, Some, None}
use Rattle.save_image.specs.Image.{Image}
use Rattle.save_device.specs.declared.device.SaveDevice as device
use Rattle.energy_budget.specs.Meter.{meter_gauge}
use Rattle.channel_port.specs.declared.port.ChannelPort.{Ghosts}
use Rattle.arm_state.specs.declared.mode.Mode.{Mode}
use Rattle.nv_machine.specs.declared.events.Event.{Event}
use Rattle.nv_machine.specs.declared.events.Reply.{Reply}
use Rattle.nv_machine.specs.State.{Machine, Setup}
use Rattle.nv_machine.specs.Lives.{IsLeftAt, moments_since}
use Rattle.nv_machine.specs.Survival.{IsSurvived}
use Rattle.slot_store.specs.declared.head.Head.{Head}
use Rattle.module_core.specs.ModuleLives.{EndsAfterEvents, HasAnswered, module_life}
use Rattle.module_core.specs.Stands.{Assembly, assembly, setup_of, world_of}
use Rattle.nv_session.specs.Coming.{Comes, IsOneEvent, Tale}
use Rattle.nv_session.specs.Living.{set_to}
use Rattle.nv_session.specs.SessionLives.{SurvivesStop}
use Rattle.nv_script.specs.declared.line.ScriptLine.{ScriptLine}
use Rattle.nv_script.specs.declared.line.ScriptLine.TheVariants as line
use Rattle.nv_script.specs.declared.answer.Answer.{Answer}
use Rattle.nv_script.specs.declared.answer.Answer.TheVariants as answer
use Rattle.script_runner.specs.Doing.{AreEventsOf}
use Rattle.live_store.specs.declared.life.Life.{Life}
use Rattle.live_store.specs.declared.talk.Turn.{Turn}

-- a line that asks for something that a life does
abbrev pub is_for_lives : ScriptLine → Bool
is_for_lives line.Format = false
is_for_lives (line.Restore pick map) = false
is_for_lives (line.Lie units) = false
is_for_lives (line.Fuse calls) = false
is_for_lives (line.OneFault call) = false
is_for_lives other = true

-- the life as it is
abbrev pub now_of : {K D : Type 0} {L : Ghosts K} {S : device.Ghosts D} → Life K D L S → Assembly L
now_of {S = S} life = assembly life.running (S.state life.device) (meter_gauge life.gauge)

-- once a line has set the gauge's level
abbrev pub charged : {K : Type 0} {L : Ghosts K} → ScriptLine → Assembly L → Assembly L
charged (line.Sense level) at = record at { gauge = set_to level at.gauge }
charged asked at = at

-- a level is told with the module's mode
abbrev pub TellsMode : Answer → Mode → Type 0
TellsMode (answer.Level reading mode) now = mode ≡ Some now
TellsMode given now = ⊥

module _ {K : Type 0} (L : Ghosts K) where
  -- a life goes on by events of which this is told
  pub record GoesTo (Told : Setup → Tale) (old new : Assembly L) : Type 0 where
    pub comes : Comes L (Told (setup_of L old.it)) old new
    pub setup : setup_of L new.it ≡ setup_of L old.it

  -- the same by one event, with this reply
  abbrev pub GoesBy : Event → Reply → Assembly L → Assembly L → Type 0
  GoesBy event reply old new = GoesTo (λ setup. IsOneEvent event reply) old new

  -- An answer to a line tells of the line's events, by which the life went on; at a mark it tells how many writes are persistent, and
  -- nothing happened.
  abbrev pub TakesTurn : ScriptLine → Answer → Assembly L → Assembly L → Type 0
  TakesTurn line.Mark given old new = (given ≡ answer.Mark old.it.front.persisted) × (new ≡ old)
  TakesTurn (line.Sense level) given old new = GoesTo (AreEventsOf (line.Sense level) given) (charged (line.Sense level) old) new × TellsMode given new.it.front.mode
  TakesTurn asked given old new = GoesTo (AreEventsOf asked given) old new

  -- answers in turn
  abbrev pub TakesTurns : List Turn → Assembly L → Assembly L → Type 0
  TakesTurns [] old new = new ≡ old
  TakesTurns (turn ∷ turns) old new = (mid : Assembly L) × TakesTurn turn.asked turn.answer old mid × TakesTurns turns mid new

  -- these events are those of a line, of which the answer tells: at a mark none
  abbrev pub AreOfLine : Setup → ScriptLine → Answer → List Event → List Reply → Type 0
  AreOfLine setup line.Mark given events replies = (events ≡ []) × (replies ≡ [])
  AreOfLine setup asked given events replies = (before : Machine) × (after : Machine) × AreEventsOf asked given setup events replies before after

  -- these events are those of the turns, one after another
  abbrev pub AreOfTurns : Setup → List Turn → List Event → List Reply → Type 0
  AreOfTurns setup [] events replies = (events ≡ []) × (replies ≡ [])
  AreOfTurns setup (turn ∷ turns) events replies =
      (first : List Event) × (more : List Event) × (told : List Reply) × (others : List Reply)
      × AreOfLine setup turn.asked turn.answer first told × AreOfTurns setup turns more others × (events ≡ first ++ more) × (replies ≡ told ++ others)

  -- A life that began with this image has taken these turns: it has answered their events. A stop at any moment since it began,
  -- within a call or a device write too, leaves what survives.
  pub record LivesBy (found : Head) (image : Image) (turns : List Turn) (first now : Assembly L) : Type 0 where
    pub events : List Event
    pub replies : List Reply
    pub of : AreOfTurns (setup_of L first.it) turns events replies
    pub answered : HasAnswered L found image events replies first now
    pub survives : (bytes : List ℕ) → IsLeftAt (moments_since first.device now.device) bytes → SurvivesStop L found image events replies first now bytes

  -- A stop behind these turns left these bytes: it ended a life of their events, which a restore survives.
  pub record SurvivesTurns (found : Head) (image : Image) (turns : List Turn) (first now : Assembly L) (bytes : List ℕ) : Type 0 where
    pub events : List Event
    pub replies : List Reply
    pub of : AreOfTurns (setup_of L first.it) turns events replies
    pub ends : EndsAfterEvents L found image events replies first now bytes
    pub survived : IsSurvived (module_life L found image events replies first (world_of L now ends.last) None bytes) []
