-- What a session does at the lines of a script, with answers that are true of it.
use Rattle.std.specs.Prelude.{◌≡◌, ℕ, List, Option, None, IfSome, replicate}
use Rattle.ddr4_timing.specs.Limits.{lines_of}
use Rattle.save_device.specs.Device.{IsSettled}
use Rattle.save_device.specs.Memory.{state_of}
use Rattle.save_device.specs.declared.memory.MemoryDevice.{MemoryDevice}
use Rattle.slot_store.specs.Slots.{device_size}
use Rattle.energy_budget.specs.Meter.{leak_of, level_of}
use Rattle.channel_port.specs.declared.port.ChannelPort.{Ghosts}
use Rattle.nv_profile.specs.declared.profile.Profile.{Profile}
use Rattle.nv_session.specs.declared.session.Session.{Session}
use Rattle.nv_session.specs.declared.wires.Wires as wires
use Rattle.nv_session.specs.Living.{PassesAll, innermost}
use Rattle.nv_session.specs.Sessions.{moment_in}
use Rattle.nv_script.specs.declared.line.ScriptLine.{ScriptLine}
use Rattle.nv_script.specs.declared.answer.Answer.{Answer}
use Rattle.script_runner.specs.Chains.{LivesInChain}
use Rattle.script_runner.specs.Doing.{DoesAll, DoesEach}
use Rattle.script_runner.specs.Ended.{AreLives, EndLives, Kept}
use Rattle.script_runner.specs.Issued.{KeepsRules}
use Rattle.script_runner.specs.Keeping.{AnswersTurns, AnswersWhole, BearsOut, GoesThrough}
use Rattle.script_runner.specs.Story.{AreAllAnswered, known_after}

module _ {K A : Type 0} {L : Ghosts K} {W : wires.Ghosts A K} where
  -- so many turns of a line were answered, and each answer tells what its turn did
  pub record DoesTurns (lines turns : ℕ) (asked : ScriptLine) (before after : List Answer) (old new : Session K A L W) : Type 0 where
    pub answers : AnswersTurns L lines turns asked before after (moment_in old) (moment_in new)
    pub does : DoesEach asked answers.line.part.given old new

  -- all of them
  pub record DoesLine (lines : ℕ) (asked : ScriptLine) (before after : List Answer) (old new : Session K A L W) : Type 0 where
    pub answers : AnswersWhole L lines asked before after (moment_in old) (moment_in new)
    pub does : DoesEach asked answers.line.part.given old new

  -- lines were answered from the beginning of a session on, and each answer tells what it did
  pub record DoesLines (lines : ℕ) (asked : List ScriptLine) (before after : List Answer) (first new : Session K A L W) : Type 0 where
    pub through : GoesThrough L lines asked before after (moment_in new)
    pub does : DoesAll through.answered.story first new

  -- and what is kept of them, if anything is, is this
  pub record NotesLines (lines : ℕ) (asked : List ScriptLine) (before after : List Answer) (kept : Option Kept) (first new : Session K A L W) : Type 0 where
    pub done : DoesLines lines asked before after first new
    pub ended : IfSome kept (EndLives done.through.answered.story first new)

  -- these were the lines of a script, and what their answers made known is borne out at its end
  pub record AreAllDone (lines : ℕ) (asked : List ScriptLine) (before after : List Answer) (first last : Session K A L W) : Type 0 where
    pub all : AreAllAnswered lines asked before after
    pub does : DoesAll all.answered.story first last
    pub bears : BearsOut L lines (known_after None all.answered.story) (moment_in last)

  -- and what is kept of them, if anything is, is this
  pub record AreAllNoted (lines : ℕ) (asked : List ScriptLine) (before after : List Answer) (kept : Option Kept) (first last : Session K A L W) : Type 0 where
    pub done : AreAllDone lines asked before after first last
    pub ended : IfSome kept (EndLives done.all.answered.story first last)

  -- a session before its first line: no life runs, the device has these bytes, which a stop leaves, and passes all calls, and the
  -- gauge shows 0 and has no leak
  pub record IsNewOn (Wired : A → Type 0) (profile : Profile) (bytes : List ℕ) (session : Session K A L W) : Type 0 where
    pub profile_is : session.profile ≡ profile
    pub wired : Wired session.wires
    pub life : session.life ≡ None
    pub bytes_are : (state_of (innermost session.device)).bytes ≡ bytes
    pub settled : IsSettled (state_of (innermost session.device))
    pub passes : PassesAll session.device
    pub level : level_of session.gauge ≡ 0
    pub leak : leak_of session.gauge ≡ 0

-- The lines of a script are done by a new session with such wires on these bytes, in turn: their answers are those that were reported,
-- and tell what each did. So they are those of a chain of lives. What the channels of the last one have issued keeps the timing rules.
-- The device is the session's at the end.
pub record IsRunOn {K A : Type 0} (L : Ghosts K) (W : wires.Ghosts A K) (Wired : A → Type 0) (profile : Profile) (bytes : List ℕ) (asked : List ScriptLine) (before after : List Answer) (device : MemoryDevice) : Type 0 where
  pub first : Session K A L W
  pub last : Session K A L W
  pub begins : IsNewOn Wired profile bytes first
  pub done : AreAllDone (lines_of profile.checked.geometry) asked before after first last
  pub lives : LivesInChain done.all.answered.story first last
  pub rules : KeepsRules last
  pub device_is : device ≡ innermost last.device

-- the same, and what is kept of it, if anything is, is this
pub record IsKeptRunOn {K A : Type 0} (L : Ghosts K) (W : wires.Ghosts A K) (Wired : A → Type 0) (profile : Profile) (bytes : List ℕ) (asked : List ScriptLine) (before after : List Answer) (kept : Option Kept) (device : MemoryDevice) : Type 0 where
  pub run : IsRunOn L W Wired profile bytes asked before after device
  pub lists : IfSome kept (AreLives run.done.all.answered.story run.first run.last)

-- the bytes of a device on which nothing was stored yet
abbrev pub blank : Profile → List ℕ
blank profile = replicate (device_size (lines_of profile.checked.geometry)) 0

-- the same on a device of zero bytes
abbrev pub IsRun : {K A : Type 0} (L : Ghosts K) (W : wires.Ghosts A K) (Wired : A → Type 0) (profile : Profile) (asked : List ScriptLine) (before after : List Answer) (device : MemoryDevice) → Type 0
IsRun L W Wired profile asked before after device = IsRunOn L W Wired profile (blank profile) asked before after device

abbrev pub IsKeptRun : {K A : Type 0} (L : Ghosts K) (W : wires.Ghosts A K) (Wired : A → Type 0) (profile : Profile) (asked : List ScriptLine) (before after : List Answer) (kept : Option Kept) (device : MemoryDevice) → Type 0
IsKeptRun L W Wired profile asked before after kept device = IsKeptRunOn L W Wired profile (blank profile) asked before after kept device
