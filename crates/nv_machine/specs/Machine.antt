-- The machine that a module's replies are a run of: which reply an event may have, and the state after it.
use Rattle.std.specs.Prelude.{◌≡◌, ◌≢◌, ℕ, ◌<◌, ◌≤◌, Bool, true, false, List, [], ◌∷◌, nat_lt, MatchBool, Result, Ok, Err, Option, Some, None, if◌then◌else◌}
use Rattle.std.specs.List.{list_any}
use Rattle.line_memory.specs.declared.Write as line_write
use Rattle.save_device.specs.declared.calls.CallKind.{CallKind}
use Rattle.save_device.specs.declared.calls.CallKind.TheVariants.{Write, Sync}
use Rattle.save_device.specs.Calls.{MakesCalls}
use Rattle.slot_store.specs.declared.plan.Step.{Step}
use Rattle.slot_store.specs.declared.plan.Step.TheVariants.{Close, Header, Page, Open, SyncOpen}
use Rattle.arm_state.specs.declared.mode.Mode.TheVariants as modes
use Rattle.arm_state.specs.declared.refusal.ArmRefusal.{ArmRefusal}
use Rattle.arm_state.specs.declared.refusal.ArmRefusal.TheVariants as refusals
use Rattle.arm_state.specs.declared.refusal.ArmReply.{ArmReply}
use Rattle.arm_state.specs.declared.refusal.ArmReply.TheVariants as arm
use Rattle.arm_state.specs.declared.refusal.DisarmReply.{DisarmReply}
use Rattle.arm_state.specs.declared.refusal.DisarmReply.TheVariants as disarm
use Rattle.arm_state.specs.Modes.{is_armed, has_ended, reads_gauge}
use Rattle.arm_state.specs.declared.moves.Move.TheVariants.{FailSave}
use Rattle.arm_state.specs.Moves.{mode_after}
use Rattle.arm_state.specs.Refusals.{arm_refusal, disarm_refusal, save_refusal}
use Rattle.energy_budget.specs.declared.energy.GaugeCall.TheVariants.{Sense, Tick}
use Rattle.energy_budget.specs.Gauge.{Gauge, ReadsLevel}
use Rattle.channel_port.specs.declared.answers.Ticket.{Ticket}
use Rattle.channel_port.specs.declared.answers.Got.{Got}
use Rattle.channel_port.specs.declared.answers.Collected.{Collected}
use Rattle.channel_port.specs.declared.answers.Done.{Done}
use Rattle.channel_port.specs.Answers.{Puts, IsGot, IsCollected, IsServed}
use Rattle.channel_port.specs.Draining.{DrainOrder}
use Rattle.line_memory.specs.Memory.{line_of}
use Rattle.nv_machine.specs.declared.events.Accepted.{Accepted}
use Rattle.arm_state.specs.declared.refusal.WriteRefusal.{WriteRefusal}
use Rattle.arm_state.specs.declared.refusal.ReadRefusal.{ReadRefusal}
use Rattle.nv_machine.specs.declared.events.StepReply.{StepReply}
use Rattle.nv_machine.specs.declared.events.StepReply.TheVariants as step
use Rattle.nv_machine.specs.declared.events.Event.{Event}
use Rattle.nv_machine.specs.declared.events.Event.TheVariants as events
use Rattle.nv_machine.specs.declared.events.Reply.{Reply}
use Rattle.nv_machine.specs.declared.events.Reply.TheVariants as replies
use Rattle.nv_machine.specs.State.{Setup, RunningSave, Machine, World, all_of, memory_of, pending_of, hold_of}
use Rattle.nv_machine.specs.Refusals.{need_for, is_low, saves_of, write_refusal, read_refusal}
use Rattle.nv_machine.specs.Moves.{begun, disarming, read_as, sensed, written, armed, arm_failed, stepped, step_failed, torn, repeated, may_repeat, advanced, finished}
use Rattle.nv_machine.specs.Losses.{LoseStep}

-- Steps of the machine, one definition an event.

-- a write is the next one of the life, and waits in its line's channel
pub record Accepts (setup : Setup) (old : Machine) (write : line_write.Write) (accepted : Accepted) (new : Machine) : Type 0 where
  pub number : accepted.number ≡ all_of old
  pub mark : accepted.mark ≡ new.life.persisted
  pub puts : Puts (all_of old) (setup.shape.channel_of write.line) old.waits new.waits
  pub is : new ≡ record old { life = written old.mode old.life write; waits = new.waits }

abbrev pub WriteStep : Setup → line_write.Write → Result Accepted WriteRefusal → Machine → Machine → Type 0
WriteStep setup write (Ok accepted) old new = (write_refusal setup old write.line ≡ None) × Accepts setup old write accepted new
WriteStep setup write (Err refusal) old new = (write_refusal setup old write.line ≡ Some refusal) × (new ≡ old)

-- a read has its line of the memory after all accepted writes
abbrev pub ReadStep : Setup → ℕ → Result Got ReadRefusal → Machine → Machine → Type 0
ReadStep setup line (Ok got) old new =
    (read_refusal setup old line ≡ None) × IsGot (line_of (memory_of old) line) line (all_of old) (setup.shape.channel_of line) got old.waits new.waits
    × (new ≡ record old { waits = new.waits })
ReadStep setup line (Err refusal) old new = (read_refusal setup old line ≡ Some refusal) × (new ≡ old)

abbrev pub CollectStep : Ticket → Collected → Machine → Machine → Type 0
CollectStep ticket collected old new = IsCollected ticket collected old.waits new.waits × (new ≡ record old { waits = new.waits })

-- a command, which may serve a write below the hold or a read; none once mains were lost
abbrev pub WorkStep : Setup → ℕ → Option Done → Machine → Machine → Type 0
WorkStep setup channel None old new = new ≡ old
WorkStep setup channel (Some done) old new =
    (has_ended old.mode ≡ false) × IsServed (hold_of old.store.saving) channel done.served old.waits new.waits
    × (new ≡ record old { waits = new.waits })

-- a reading on mains, with whether it begins the disarming
abbrev pub TakesReading : Setup → ℕ → Bool → Machine → Machine → Type 0
TakesReading setup reading turns old new = (is_low setup (read_as reading old) ≡ turns) × (new ≡ sensed setup (read_as reading old))

-- the gauge is asked while disarmed or armed; while armed a low reading begins the disarming
abbrev pub SenseStep : Setup → ℕ → Machine → Gauge → Machine → Gauge → Type 0
SenseStep setup level old before new after =
    MatchBool (reads_gauge old.mode)
    (ReadsLevel Sense before level after × (new ≡ sensed setup (read_as level old)))
    ((level ≡ old.reading) × (new ≡ old) × (after ≡ before))

abbrev pub DisarmStep : Result DisarmReply ArmRefusal → Machine → Machine → Type 0
DisarmStep (Ok disarm.AlreadyDisarmed) old new = (old.mode ≡ modes.Disarmed) × (new ≡ old)
DisarmStep (Ok disarm.Disarming) old new = (old.mode ≡ modes.Armed) × (new ≡ disarming old)
DisarmStep (Err refusal) old new = (disarm_refusal old.mode ≡ Some refusal) × (new ≡ old)

abbrev pub SaveBeginStep : Result (Unit {0}) ArmRefusal → Machine → Machine → Type 0
SaveBeginStep (Ok begins) old new = (save_refusal old.mode (saves_of old) ≡ None) × (new ≡ begun old)
SaveBeginStep (Err refusal) old new = (save_refusal old.mode (saves_of old) ≡ Some refusal) × (new ≡ old)

-- these calls of the device were made, in their order, up to the first that failed: good says that none did
abbrev pub Calls : List CallKind → Bool → World → World → Type 0
Calls kinds good old new = MakesCalls kinds good old.device.calls new.device.calls

-- nothing refuses to arm, and the gauge shows enough
pub record MayArm (setup : Setup) (old new : World) : Type 0 where
  pub unarmed : is_armed old.machine.mode ≡ false
  pub unrefused : arm_refusal old.machine.mode (saves_of old.machine) ≡ None
  pub reads : ReadsLevel Sense old.gauge new.machine.reading new.gauge
  pub enough : need_for setup (pending_of old.machine) ≤ new.machine.reading

-- nothing refuses to arm but the gauge, which shows too little
pub record LacksEnergyToArm (setup : Setup) (need has : ℕ) (old new : World) : Type 0 where
  pub unarmed : is_armed old.machine.mode ≡ false
  pub unrefused : arm_refusal old.machine.mode (saves_of old.machine) ≡ None
  pub reads : ReadsLevel Sense old.gauge has new.gauge
  pub need_is : need ≡ need_for setup (pending_of old.machine)
  pub little : has < need
  pub is : new ≡ record old { machine = read_as has old.machine; gauge = new.gauge }

-- the arm byte is written, and made durable
abbrev pub arm_calls : List CallKind
arm_calls = Write ∷ Sync ∷ []

abbrev pub ArmStep : Setup → Result ArmReply ArmRefusal → World → World → Type 0
ArmStep setup (Ok arm.AlreadyArmed) old new = (is_armed old.machine.mode ≡ true) × (new ≡ old)
ArmStep setup (Ok arm.Armed) old new =
    MayArm setup old new × Calls arm_calls true old new × (new.machine ≡ armed (read_as new.machine.reading old.machine))
ArmStep setup (Err refusals.Device) old new =
    MayArm setup old new × Calls arm_calls false old new × (new.machine ≡ arm_failed (read_as new.machine.reading old.machine))
ArmStep setup (Err (refusals.NeedEnergy need has)) old new = LacksEnergyToArm setup need has old new
ArmStep setup (Err refusal) old new = (is_armed old.machine.mode ≡ false) × (arm_refusal old.machine.mode (saves_of old.machine) ≡ Some refusal) × (new ≡ old)

-- a page step waits while a write that the page is to have isn't in its array
abbrev pub waits_at : Machine → ℕ → Step → Bool
waits_at m count (Page page) = list_any (λ w. nat_lt w.number count) m.waits.writes
waits_at m count step = false

abbrev pub must_wait : Machine → RunningSave → Bool
must_wait m save = waits_at m save.made.count save.next

-- a step of the save, after the reading: it went well, it was the last one, or the device failed in it, so that it is made again
-- or the save ends
abbrev pub MadeStep : Setup → RunningSave → StepReply → Machine → Machine → Type 0
MadeStep setup save (step.Did made) old new =
    (made ≡ save.next) × (made ≢ SyncOpen) × (new ≡ record old { store = advanced setup.shape.lines save (stepped old.store save.made made) })
MadeStep setup save (step.Saved generation count) old new =
    (save.next ≡ SyncOpen) × (generation ≡ save.made.generation) × (count ≡ save.made.count) × (new ≡ finished save old)
MadeStep setup save step.Retry old new =
    (may_repeat setup old.mode save ≡ true) × (new ≡ record old { store = repeated save (torn old.store save.made save.next) })
MadeStep setup save step.Fault old new =
    (may_repeat setup old.mode save ≡ false)
    × (new ≡ record old { mode = mode_after FailSave old.mode; store = step_failed old.store save.made save.next })
MadeStep setup save reply old new = ⊥

-- the device call of a step: where the gate is known closed the first one is a sync
abbrev pub step_call : Bool → Step → CallKind
step_call closed Close = if closed then Sync else Write
step_call closed Header = Write
step_call closed (Page page) = Write
step_call closed Open = Write
step_call closed step = Sync

-- whether a step went well
abbrev pub is_made : StepReply → Bool
is_made step.Fault = false
is_made step.Retry = false
is_made reply = true

-- a save runs, and nothing that its coming step is to have waits
pub record MayStep (m : Machine) (save : RunningSave) : Type 0 where
  pub runs : m.store.saving ≡ Some save
  pub ready : must_wait m save ≡ false

-- The gauge is ticked once. Where it shows too little while armed no device call is made, and else one is.
abbrev pub SaveStepStep : Setup → StepReply → World → World → Type 0
SaveStepStep setup step.NoSave old new = (old.machine.store.saving ≡ None) × (new ≡ old)
SaveStepStep setup step.Waiting old new =
    (save : RunningSave) × (old.machine.store.saving ≡ Some save) × (must_wait old.machine save ≡ true) × (new ≡ old)
SaveStepStep setup step.Turned old new =
    (save : RunningSave) × MayStep old.machine save × (reading : ℕ) × ReadsLevel Tick old.gauge reading new.gauge
    × (is_low setup (read_as reading old.machine) ≡ true)
    × (new ≡ record old { machine = disarming (read_as reading old.machine); gauge = new.gauge })
SaveStepStep setup reply old new =
    (save : RunningSave) × MayStep old.machine save × (reading : ℕ) × ReadsLevel Tick old.gauge reading new.gauge
    × (is_low setup (read_as reading old.machine) ≡ false)
    × Calls (step_call old.machine.store.closed save.next ∷ []) (is_made reply) old new
    × MadeStep setup save reply (read_as reading old.machine) new.machine

-- neither the device nor the gauge is asked
abbrev pub MovesAlone : (Machine → Machine → Type 0) → World → World → Type 0
MovesAlone Moves old new = (new ≡ record old { machine = new.machine }) × Moves old.machine new.machine

-- From old, the machine may give this reply to the event and go on to new. No other reply is given.
abbrev pub MachineStep : Setup → Event → Reply → World → World → Type 0
MachineStep setup (events.Write write) (replies.Write result) old new = MovesAlone (WriteStep setup write result) old new
MachineStep setup (events.Read line) (replies.Read result) old new = MovesAlone (ReadStep setup line result) old new
MachineStep setup (events.Collect ticket) (replies.Collect collected) old new = MovesAlone (CollectStep ticket collected) old new
MachineStep setup (events.Work channel) (replies.Work done) old new = MovesAlone (WorkStep setup channel done) old new
MachineStep setup events.Sense (replies.Sense level) old new =
    (new ≡ record old { machine = new.machine; gauge = new.gauge }) × SenseStep setup level old.machine old.gauge new.machine new.gauge
MachineStep setup events.Arm (replies.Arm result) old new = ArmStep setup result old new
MachineStep setup events.Disarm (replies.Disarm result) old new = MovesAlone (DisarmStep result) old new
MachineStep setup events.SaveBegin (replies.SaveBegin result) old new = MovesAlone (SaveBeginStep result) old new
MachineStep setup events.SaveStep (replies.SaveStep reply) old new = SaveStepStep setup reply old new
MachineStep setup events.Lose (replies.Lose loss) old new = (order : DrainOrder) × LoseStep order setup loss old new
MachineStep setup event reply old new = ⊥
