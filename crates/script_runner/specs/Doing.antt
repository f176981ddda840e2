-- What each line of a script does at a session, and which answer tells of it.
use Rattle.std.specs.Prelude.{◌≡◌, ℕ, ◌-◌, ◌^◌, true, List, [], ◌∷◌, Result, Option, Some, None, IfErr, IfOk, OnOk, unwrap_or}
use Rattle.std.specs.Option.{option_map}
use Rattle.ddr4_timing.specs.declared.command.Stamped.{Stamped}
use Rattle.interleave_map.specs.declared.ready.Interleaving.{Interleaving}
use Rattle.save_device.specs.Device.{MayLeave, StopsWithin, present}
use Rattle.save_device.specs.Memory.{state_of, IsPicked}
use Rattle.save_device.specs.declared.memory.Pick.{Pick}
use Rattle.save_device.specs.declared.memory.Pick.TheVariants.{Old}
use Rattle.slot_store.specs.declared.head.Head.{Head}
use Rattle.slot_store.specs.declared.restoring.RestoreError.{RestoreError}
use Rattle.slot_store.specs.Formatted.{first_head}
use Rattle.slot_store.specs.Outcomes.{first_image}
use Rattle.slot_store.specs.Told.{Refuses, is_fault}
use Rattle.arm_state.specs.declared.loss.Loss.{Loss}
use Rattle.arm_state.specs.declared.loss.Loss.TheVariants as lost
use Rattle.arm_state.specs.declared.mode.Mode.{Mode}
use Rattle.arm_state.specs.declared.refusal.ArmRefusal.{ArmRefusal}
use Rattle.arm_state.specs.declared.refusal.ArmRefusal.TheVariants as refusals
use Rattle.arm_state.specs.declared.refusal.ArmReply.{ArmReply}
use Rattle.arm_state.specs.declared.refusal.DisarmReply.{DisarmReply}
use Rattle.arm_state.specs.declared.refusal.ReadRefusal.{ReadRefusal}
use Rattle.arm_state.specs.declared.refusal.WriteRefusal.{WriteRefusal}
use Rattle.energy_budget.specs.Meter.{meter_gauge, lie_of}
use Rattle.channel_port.specs.declared.port.ChannelPort.{Ghosts}
use Rattle.nv_machine.specs.declared.events.Accepted.{Accepted}
use Rattle.nv_machine.specs.declared.events.Event.{Event}
use Rattle.nv_machine.specs.declared.events.Event.TheVariants as events
use Rattle.nv_machine.specs.declared.events.Reply.{Reply}
use Rattle.nv_machine.specs.declared.events.Reply.TheVariants as replies
use Rattle.nv_machine.specs.declared.events.StepReply.{StepReply}
use Rattle.nv_machine.specs.State.{Machine, Setup}
use Rattle.module_core.specs.Opening.{opened_with}
use Rattle.module_core.specs.Stands.{ModuleStands}
use Rattle.nv_session.specs.declared.session.Session.{Session}
use Rattle.nv_session.specs.declared.turns.LineSeen.{LineSeen}
use Rattle.nv_session.specs.declared.wires.Wires as wires
use Rattle.nv_session.specs.Coming.{IsOneEvent}
use Rattle.nv_session.specs.Faults.{CountsFault}
use Rattle.nv_session.specs.Living.{GoesOnBy, IsWork, RunsUnissued, RunsWith, SessionAt, device_state, innermost, read_refusal_at_rest, set_to, write_refusal_at_rest}
use Rattle.nv_session.specs.ReadTurns.{ReadsLine}
use Rattle.nv_session.specs.Restoring.{Revives}
use Rattle.nv_session.specs.SaveTurns.{MakesSave}
use Rattle.nv_session.specs.Sessions.{line_count_in, moment_in, restored_in, setup_over}
use Rattle.nv_session.specs.Turns.{MakesOneStep}
use Rattle.nv_script.specs.declared.line.ScriptLine.{ScriptLine}
use Rattle.nv_script.specs.declared.line.ScriptLine.TheVariants as line
use Rattle.nv_script.specs.declared.answer.Answer.{Answer}
use Rattle.nv_script.specs.declared.answer.Answer.TheVariants as answer
use Rattle.script_runner.specs.Story.{Exchange}
use Rattle.script_runner.specs.Replies.{write_told, read_told, work_told, step_told, save_told, arm_told, disarm_told, restore_told}

-- The events of a line where a life runs: those of the session's call with the line's words. The answer tells of its result.
abbrev pub AreEventsOf : ScriptLine → Answer → Setup → List Event → List Reply → Machine → Machine → Type 0
AreEventsOf (line.Write write) given setup asked told old new =
    (result : Result Accepted WriteRefusal) × (given ≡ write_told result) × IsOneEvent (events.Write write) (replies.Write result) asked told old new
AreEventsOf (line.Read at) given setup asked told old new =
    (result : Result LineSeen ReadRefusal) × (given ≡ read_told at result) × ReadsLine setup at result asked told old new
AreEventsOf (line.Work channel most) given setup asked told old new =
    (result : Option Stamped) × (given ≡ work_told channel result) × IsWork channel result asked told old new
AreEventsOf line.Save given setup asked told old new =
    (result : Result StepReply ArmRefusal) × (given ≡ save_told result) × MakesSave setup.shape.channels result asked told old new
AreEventsOf line.Step given setup asked told old new =
    (result : Result StepReply ArmRefusal) × (given ≡ step_told result) × MakesOneStep result asked told old new
AreEventsOf (line.Sense level) given setup asked told old new =
    (reading : ℕ) × (mode : Option Mode) × (given ≡ answer.Level reading mode) × IsOneEvent events.Sense (replies.Sense reading) asked told old new
AreEventsOf line.Arm given setup asked told old new =
    (result : Result ArmReply ArmRefusal) × (given ≡ arm_told result) × IsOneEvent events.Arm (replies.Arm result) asked told old new
AreEventsOf line.Disarm given setup asked told old new =
    (result : Result DisarmReply ArmRefusal) × (given ≡ disarm_told result) × IsOneEvent events.Disarm (replies.Disarm result) asked told old new
AreEventsOf line.Lose given setup asked told old new =
    (result : Loss) × (given ≡ answer.Lost result) × IsOneEvent events.Lose (replies.Lose result) asked told old new
AreEventsOf asked_line given setup asked told old new = ⊥

-- the answer to such a line where no life runs, in a memory of so many lines
abbrev pub IsAnswerAtRest : ℕ → ScriptLine → Answer → Type 0
IsAnswerAtRest lines (line.Write write) given = given ≡ answer.WriteRefused (write_refusal_at_rest lines write.line)
IsAnswerAtRest lines (line.Read at) given = given ≡ answer.ReadRefused (read_refusal_at_rest lines at)
IsAnswerAtRest lines (line.Work channel most) given = given ≡ answer.Idle channel
IsAnswerAtRest lines line.Save given = given ≡ answer.SaveRefused refusals.Closed
IsAnswerAtRest lines line.Step given = given ≡ answer.SaveRefused refusals.Closed
IsAnswerAtRest lines (line.Sense level) given = given ≡ answer.Level level None
IsAnswerAtRest lines line.Arm given = given ≡ answer.ArmRefused refusals.Closed
IsAnswerAtRest lines line.Disarm given = given ≡ answer.DisarmRefused refusals.Closed
IsAnswerAtRest lines line.Lose given = given ≡ answer.Lost lost.Closed
IsAnswerAtRest lines asked given = ⊥

-- the session once a line has set the gauge's level
abbrev pub set_by : {K : Type 0} {L : Ghosts K} → ScriptLine → SessionAt L → SessionAt L
set_by (line.Sense level) at = record at { gauge = set_to level at.gauge }
set_by asked at = at

module _ {K A : Type 0} {L : Ghosts K} {W : wires.Ghosts A K} where
  -- The life that runs goes on by the events of the line; where none runs the answer says so.
  pub record GoesOnBehind (asked : ScriptLine) (given : Answer) (old new : Session K A L W) : Type 0 where
    pub comes : GoesOnBy L (AreEventsOf asked given) (set_by asked (moment_in old)) (moment_in new)
    pub none : old.life ≡ None → IsAnswerAtRest (line_count_in old) asked given

  -- a line that asks neither the device nor the gauge leaves both as they are, with what is to fail and the lie
  pub record LeavesAlone (old new : Session K A L W) : Type 0 where
    pub device : new.device ≡ old.device
    pub gauge : new.gauge ≡ old.gauge

  -- a level that is set touches no device, and where no life runs no lie
  pub record LeavesDevice (old new : Session K A L W) : Type 0 where
    pub device : new.device ≡ old.device
    pub lie : old.life ≡ None → lie_of new.gauge ≡ lie_of old.gauge

  -- a level is told with the mode of the life that runs
  abbrev pub TellsMode : Answer → Session K A L W → Type 0
  TellsMode (answer.Level reading mode) new = mode ≡ option_map (λ life. life.front.mode) new.life
  TellsMode given new = ⊥

  -- a lie ends, and the gauge is as it was
  pub record EndsLie (old new : Session K A L W) : Type 0 where
    pub lie : lie_of new.gauge ≡ None
    pub gauge : meter_gauge new.gauge ≡ meter_gauge old.gauge

  -- a life begins on a store of zero lines, over the profile's map; or it is told that none does, and a call of the device failed
  abbrev pub Formats : Answer → Session K A L W → Session K A L W → Type 0
  Formats answer.Formatted old new =
      RunsWith L (setup_over old old.profile.map) (λ life. ModuleStands L life (device_state new.device) (opened_with first_head (first_image (line_count_in old)))) new.life
  Formats answer.FormatFault old new = (new.life ≡ None) × CountsFault true (device_state old.device) (device_state new.device)
  Formats given old new = ⊥

  -- A stop leaves what the pick says of the device, and a life begins over the map with the newest image that is left; or none
  -- does, and the answer is the restore's error, a fault of the device exactly where a call of it failed. A stop right behind leaves
  -- the same bytes.
  pub record Restores (pick : Pick) (map : Interleaving) (given : Answer) (old new : Session K A L W) : Type 0 where
    pub result : Result Head RestoreError
    pub told : given ≡ restore_told result
    pub left : MayLeave (present (state_of (innermost old.device))) (state_of (innermost new.device)).bytes
    pub picked : IsPicked pick (innermost old.device) (state_of (innermost new.device)).bytes
    pub issued : OnOk result (RunsUnissued L old.profile.checked new.life)
    pub revives : IfOk result (λ found. RunsWith L (setup_over old map) (λ life. Revives L (restored_in new) found life (device_state new.device)) new.life)
    pub refused : IfErr result (λ error. Refuses error (restored_in new))
    pub none : IfErr result (λ error. new.life ≡ None)
    pub again : StopsWithin (λ bytes. bytes ≡ (state_of (innermost new.device)).bytes) (present (state_of (innermost new.device)))
    pub faults : CountsFault (is_fault result) (device_state old.device) (device_state new.device)

  -- from now on so many units can be paid on backup, and the gauge shows what it did
  pub record Lies (units : ℕ) (given : Answer) (old new : Session K A L W) : Type 0 where
    pub told : given ≡ answer.Lie units
    pub lie : lie_of new.gauge ≡ Some units
    pub gauge : meter_gauge new.gauge ≡ meter_gauge old.gauge
    pub device : new.device ≡ old.device
    pub life : new.life ≡ old.life

  -- from now on the device passes so many calls, or all
  pub record Fuses (calls : Option ℕ) (given : Answer) (old new : Session K A L W) : Type 0 where
    pub told : given ≡ answer.Fuse calls
    pub passes : new.device.device.left ≡ unwrap_or calls (2 ^ 64 - 1)
    pub fault : new.device.before ≡ old.device.before
    pub device : device_state new.device ≡ device_state old.device
    pub gauge : new.gauge ≡ old.gauge
    pub life : new.life ≡ old.life

  -- from now on the device's call with this number, the next one being the first, fails alone
  pub record FailsOne (call : ℕ) (given : Answer) (old new : Session K A L W) : Type 0 where
    pub told : given ≡ answer.OneFault call
    pub fault : new.device.before ≡ Some (call - 1)
    pub within : new.device.device ≡ old.device.device
    pub device : device_state new.device ≡ device_state old.device
    pub gauge : new.gauge ≡ old.gauge
    pub life : new.life ≡ old.life

  -- it is told how many writes are persistent
  pub record Marks (given : Answer) (old new : Session K A L W) : Type 0 where
    pub told : given ≡ answer.Mark (unwrap_or (option_map (λ life. life.front.persisted) old.life) 0)
    pub same : new ≡ old

  -- a line is done with its own words, and this answer tells of it
  abbrev pub Does : ScriptLine → Answer → Session K A L W → Session K A L W → Type 0
  Does line.Format given old new = Formats given old new × EndsLie old new × (given ≡ answer.Formatted → RunsUnissued L old.profile.checked new.life)
  Does (line.Restore pick map) given old new = Restores (unwrap_or pick Old) (unwrap_or map old.profile.map) given old new × EndsLie old new
  Does (line.Sense level) given old new = GoesOnBehind (line.Sense level) given old new × TellsMode given new × LeavesDevice old new
  Does (line.Lie units) given old new = Lies units given old new
  Does (line.Fuse calls) given old new = Fuses calls given old new
  Does (line.OneFault call) given old new = FailsOne call given old new
  Does line.Mark given old new = Marks given old new
  Does (line.Write write) given old new = GoesOnBehind (line.Write write) given old new × LeavesAlone old new
  Does (line.Read at) given old new = GoesOnBehind (line.Read at) given old new × LeavesAlone old new
  Does (line.Work channel most) given old new = GoesOnBehind (line.Work channel most) given old new × LeavesAlone old new
  Does line.Disarm given old new = GoesOnBehind line.Disarm given old new × LeavesAlone old new
  Does asked given old new = GoesOnBehind asked given old new × (old.life ≡ None → LeavesAlone old new)

  -- the session is the same profile's, over the same wires
  pub record KeepsTerms (old new : Session K A L W) : Type 0 where
    pub profile : new.profile ≡ old.profile
    pub wires : new.wires ≡ old.wires

  -- it is done once for each of these answers, in turn
  abbrev pub DoesEach : ScriptLine → List Answer → Session K A L W → Session K A L W → Type 0
  DoesEach asked [] old new = new ≡ old
  DoesEach asked (given ∷ later) old new = (mid : Session K A L W) × Does asked given old mid × KeepsTerms old mid × DoesEach asked later mid new

  -- lines are done, in turn, each with its answers
  abbrev pub DoesAll : List Exchange → Session K A L W → Session K A L W → Type 0
  DoesAll [] old new = new ≡ old
  DoesAll (exchange ∷ later) old new = (mid : Session K A L W) × DoesEach exchange.asked exchange.answers old mid × DoesAll later mid new
