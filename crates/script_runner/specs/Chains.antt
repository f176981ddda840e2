-- The lives of a script: each line is events of the life that runs, and each format and each restore begins another.
use Rattle.std.specs.Prelude.{◌≡◌, ℕ, List, [], ◌∷◌, ◌++◌, Ok, Option, Some, None, MatchOption}
use Rattle.save_image.specs.Image.{Image}
use Rattle.slot_store.specs.declared.head.Head.{Head}
use Rattle.slot_store.specs.Formatted.{first_head}
use Rattle.slot_store.specs.Outcomes.{first_image}
use Rattle.channel_port.specs.declared.port.ChannelPort.{Ghosts}
use Rattle.nv_machine.specs.declared.events.Event.{Event}
use Rattle.nv_machine.specs.declared.events.Reply.{Reply}
use Rattle.nv_machine.specs.State.{Machine, World}
use Rattle.nv_machine.specs.Lives.{AreChained, IsLeftAt, Lived, moments_since}
use Rattle.nv_machine.specs.Survival.{IsSurvivedBehind}
use Rattle.module_core.specs.declared.module.Module.{Module}
use Rattle.module_core.specs.ModuleLives.{EndsAmongEvents, module_life}
use Rattle.module_core.specs.Stands.{Assembly, assembly, setup_of}
use Rattle.nv_session.specs.declared.session.Session.{Session}
use Rattle.nv_session.specs.declared.wires.Wires as wires
use Rattle.nv_session.specs.Living.{SessionAt, device_state}
use Rattle.nv_session.specs.Restoring.{TellsImage}
use Rattle.nv_session.specs.SessionLives.{HasLived}
use Rattle.nv_session.specs.Sessions.{line_count_in, moment_in}
use Rattle.nv_script.specs.declared.line.ScriptLine.{ScriptLine}
use Rattle.nv_script.specs.declared.line.ScriptLine.TheVariants as line
use Rattle.nv_script.specs.declared.answer.Answer.{Answer}
use Rattle.nv_script.specs.declared.answer.Answer.TheVariants as answer
use Rattle.script_runner.specs.Doing.{AreEventsOf, Does}
use Rattle.script_runner.specs.Replies.{restore_told}
use Rattle.script_runner.specs.Story.{Exchange}

module _ {K : Type 0} (L : Ghosts K) where
  -- a life that runs: what was found, the module that it began as, and what that has answered since
  pub record RunningLife : Type 0 where
    pub found : Head
    pub image : Image
    pub first : Assembly L
    pub events : List Event
    pub replies : List Reply

  -- The lives of a script: those that stops ended, each begun with what the one before left, and the one that runs, if one does.
  pub record Chain : Type 0 where
    pub ended : List Lived
    pub running : Option RunningLife

  abbrev pub ended_in : Option Chain → List Lived
  ended_in None = []
  ended_in (Some chain) = chain.ended

  abbrev pub running_in : Option Chain → Option RunningLife
  running_in None = None
  running_in (Some chain) = chain.running

  -- a life that begins: the module that runs then, with no event yet
  pub record BeginsRunning (life : RunningLife) (at : SessionAt L) : Type 0 where
    pub it : Module K L
    pub runs : at.life ≡ Some it
    pub first : life.first ≡ assembly it at.device at.gauge
    pub unasked : life.events ≡ []
    pub untold : life.replies ≡ []

  -- a stop that left these bytes ended the life that ran, if one did
  abbrev pub EndsLife : Option RunningLife → List ℕ → List Lived → List Lived → Type 0
  EndsLife None bytes old new = new ≡ old
  EndsLife (Some life) bytes old new =
      (last : World) × (new ≡ old ++ module_life L life.found life.image life.events life.replies life.first last None bytes ∷ [])

  -- the life goes on by the events of a line
  pub record GoesFurther (asked : ScriptLine) (given : Answer) (old new : RunningLife) : Type 0 where
    pub more : List Event
    pub others : List Reply
    pub before : Machine
    pub after : Machine
    pub told : AreEventsOf asked given (setup_of L old.first.it) more others before after
    pub is : new ≡ record old { events = old.events ++ more; replies = old.replies ++ others }

  -- what a line makes of it: one that is no event leaves it
  abbrev pub LivesBy : ScriptLine → Answer → (RunningLife → RunningLife → Type 0)
  LivesBy (line.Lie units) given = λ old new. new ≡ old
  LivesBy (line.Fuse calls) given = λ old new. new ≡ old
  LivesBy (line.OneFault call) given = λ old new. new ≡ old
  LivesBy line.Mark given = λ old new. new ≡ old
  LivesBy asked given = GoesFurther asked given

  -- the same of the life that runs, if one does
  abbrev pub RunsBy : (RunningLife → RunningLife → Type 0) → Option RunningLife → Option RunningLife → Type 0
  RunsBy By None new = new ≡ None
  RunsBy By (Some life) new = (later : RunningLife) × By life later × (new ≡ Some later)

  -- the life that runs goes on so, and those that ended stay
  abbrev pub ContinuesBy : (RunningLife → RunningLife → Type 0) → Option Chain → Option Chain → Type 0
  ContinuesBy By None new = new ≡ None
  ContinuesBy By (Some chain) new = (running : Option RunningLife) × RunsBy By chain.running running × (new ≡ Some (record { ended = chain.ended; running = running }))

  -- A stop at a moment since the life began ended it, behind those that ended before: they are a chain of the headline, and a restore
  -- finds what the headline says.
  pub record EndsChain (ended : List Lived) (life : RunningLife) (now : Assembly L) (bytes : List ℕ) : Type 0 where
    pub ends : EndsAmongEvents L life.found life.image life.events life.replies life.first now bytes
    pub chained : AreChained (ended ++ module_life L life.found life.image ends.front ends.told life.first ends.last ends.unanswered bytes ∷ [])
    pub survived : IsSurvivedBehind ended (module_life L life.found life.image ends.front ends.told life.first ends.last ends.unanswered bytes)

  -- the life that runs has answered its events, and whatever a stop leaves at any moment since it began ends a chain
  pub record RunsBehind (ended : List Lived) (life : RunningLife) (at : SessionAt L) : Type 0 where
    pub lived : HasLived L life.found life.image life.events life.replies life.first at
    pub stops : (bytes : List ℕ) → IsLeftAt (moments_since life.first.device at.device) bytes → EndsChain ended life (assembly lived.it at.device at.gauge) bytes

  -- the lives that ended are a chain of the headline, and so are they with the one that runs, stopped at any moment
  pub record IsChained (chain : Chain) (at : SessionAt L) : Type 0 where
    pub ended : AreChained chain.ended
    pub runs : MatchOption chain.running (at.life ≡ None) (λ life. RunsBehind chain.ended life at)

module _ {K A : Type 0} {L : Ghosts K} {W : wires.Ghosts A K} where
  -- What a format makes of the lives so far: they count no more, and where it is told a life begins, on a store of zero lines.
  abbrev pub FormatsLives : Answer → Session K A L W → Session K A L W → Option (Chain L) → Type 0
  FormatsLives answer.Formatted old new after =
      (life : RunningLife L) × BeginsRunning L life (moment_in new) × (life.found ≡ first_head) × (life.image ≡ first_image (line_count_in old))
      × (after ≡ Some (record { ended = []; running = Some life }))
  FormatsLives given old new after = after ≡ None

  -- What a restore makes of them: a stop that left the device's bytes ended the life that ran; and where an image is told the next
  -- life begins with it.
  abbrev pub RestoresLives : Answer → Session K A L W → Option (Chain L) → Option (Chain L) → Type 0
  RestoresLives (answer.Restored generation count verdict) new before after =
      (ended : List Lived) × EndsLife L (running_in L before) (device_state new.device).bytes (ended_in L before) ended
      × (life : RunningLife L) × BeginsRunning L life (moment_in new) × TellsImage life.found life.image
      × (answer.Restored generation count verdict ≡ restore_told (Ok life.found))
      × (after ≡ Some (record { ended = ended; running = Some life }))
  RestoresLives given new None after = after ≡ None
  RestoresLives given new (Some chain) after =
      (ended : List Lived) × EndsLife L chain.running (device_state new.device).bytes chain.ended ended × (after ≡ Some (record { ended = ended; running = None }))

  -- what a line makes of them
  abbrev pub MakesOfLives : ScriptLine → Answer → Session K A L W → Session K A L W → Option (Chain L) → Option (Chain L) → Type 0
  MakesOfLives line.Format given old new before after = FormatsLives given old new after
  MakesOfLives (line.Restore pick map) given old new before after = RestoresLives given new before after
  MakesOfLives asked given old new before after = ContinuesBy L (LivesBy L asked given) before after

  -- what the answers to a line make of them, in turn
  abbrev pub LivesEach : ScriptLine → List Answer → Session K A L W → Session K A L W → Option (Chain L) → Option (Chain L) → Type 0
  LivesEach asked [] old new before after = (new ≡ old) × (after ≡ before)
  LivesEach asked (given ∷ later) old new before after =
      (mid : Session K A L W) × (between : Option (Chain L)) × Does asked given old mid × MakesOfLives asked given old mid before between
      × LivesEach asked later mid new between after

  -- what lines make of them
  abbrev pub LivesAll : List Exchange → Session K A L W → Session K A L W → Option (Chain L) → Option (Chain L) → Type 0
  LivesAll [] old new before after = (new ≡ old) × (after ≡ before)
  LivesAll (exchange ∷ later) old new before after =
      (mid : Session K A L W) × (between : Option (Chain L)) × LivesEach exchange.asked exchange.answers old mid before between × LivesAll later mid new between after

  -- the lives of a story that began with none are a chain of the headline
  pub record LivesInChain (story : List Exchange) (first last : Session K A L W) : Type 0 where
    pub lives : Option (Chain L)
    pub through : LivesAll story first last None lives
    pub chained : MatchOption lives (Unit {0}) (λ chain. IsChained L chain (moment_in last))
