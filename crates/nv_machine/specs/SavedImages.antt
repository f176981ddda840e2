-- What a stop leaves of a save that nothing disturbs.
use Rattle.std.specs.Prelude.{◌≡◌, ◌⊎◌, false, List, [], ◌∷◌, Err, None, Ok, Some}
use Rattle.slot_store.specs.Outcomes.{Outcome, Found}
use Rattle.slot_store.specs.Slots.{other}
use Rattle.arm_state.specs.declared.mode.Mode.{Mode}
use Rattle.arm_state.specs.Modes.{has_ended, is_armed}
use Rattle.nv_machine.specs.declared.events.StepReply.TheVariants as step
use Rattle.nv_machine.specs.declared.events.Event.{Event}
use Rattle.nv_machine.specs.declared.events.Event.TheVariants as events
use Rattle.nv_machine.specs.declared.events.Reply.{Reply}
use Rattle.nv_machine.specs.declared.events.Reply.TheVariants as replies
use Rattle.save_image.specs.Image.{Image}
use Rattle.slot_store.specs.Rest.{only}
use Rattle.arm_state.specs.declared.refusal.ArmRefusal.TheVariants as refusals
use Rattle.arm_state.specs.declared.refusal.ArmReply.TheVariants as arm
use Rattle.arm_state.specs.declared.refusal.DisarmReply.TheVariants as disarm
use Rattle.nv_machine.specs.Headline.{Run}
use Rattle.nv_machine.specs.State.{Machine, RunningSave, Setup, World, newest_of, made_of}

-- An event that disturbs no save, by the modes before and behind it: a write, a read, a command, or a step that went well, is made again or has to wait; a reading that
-- doesn't turn; and what is refused or was so already, but a device that failed to arm.
abbrev pub DisturbsNoSave : Event → Reply → Mode → Mode → Type 0
DisturbsNoSave (events.Write write) reply old new = Unit {0}
DisturbsNoSave (events.Read line) reply old new = Unit {0}
DisturbsNoSave (events.Collect ticket) reply old new = Unit {0}
DisturbsNoSave (events.Work channel) reply old new = Unit {0}
DisturbsNoSave events.SaveStep (replies.SaveStep step.Fault) old new = ⊥
DisturbsNoSave events.SaveStep (replies.SaveStep step.Turned) old new = ⊥
DisturbsNoSave events.SaveStep reply old new = Unit {0}
DisturbsNoSave events.Sense reply old new = new ≡ old
DisturbsNoSave events.Arm (replies.Arm (Ok arm.Armed)) old new = ⊥
DisturbsNoSave events.Arm (replies.Arm (Err refusals.Device)) old new = ⊥
DisturbsNoSave events.Arm reply old new = Unit {0}
DisturbsNoSave events.Disarm (replies.Disarm (Ok disarm.Disarming)) old new = ⊥
DisturbsNoSave events.Disarm reply old new = Unit {0}
DisturbsNoSave events.SaveBegin (replies.SaveBegin (Ok begins)) old new = ⊥
DisturbsNoSave events.SaveBegin reply old new = Unit {0}
DisturbsNoSave events.Lose reply old new = ⊥

-- in each event of a run
abbrev pub DisturbNoSave : (setup : Setup) (events : List Event) (replies : List Reply) (old new : World) → Run setup events replies old new → Type 0
DisturbNoSave setup [] [] old new run = Unit {0}
DisturbNoSave setup (event ∷ events) (reply ∷ replies) old new run =
    DisturbsNoSave event reply old.machine.mode run.0.machine.mode × DisturbNoSave setup events replies run.0 new run.2
DisturbNoSave setup [] (reply ∷ replies) old new none = ⊥
DisturbNoSave setup (event ∷ events) [] old new none = ⊥

-- no save runs, and no call of the device has failed since the last one
pub record IsUnsaving (m : Machine) : Type 0 where
  pub runs : has_ended m.mode ≡ false
  pub idle : m.store.saving ≡ None
  pub settled : m.store.unsettled ≡ false

-- the newest image alone may be found, and this save runs
pub record IsSavingOver (save : RunningSave) (m : Machine) : Type 0 where
  pub alone : m.store.maybe ≡ only m.store.maybe.slot (newest_of m)
  pub runs : m.store.saving ≡ Some save

-- the old image in its slot, or this one in the other slot
abbrev pub IsOldOr : Image → Machine → Outcome → Type 0
IsOldOr made m outcome = (outcome ≡ Found m.store.maybe.slot (newest_of m)) ⊎ (outcome ≡ Found (other m.store.maybe.slot) made)

-- that which a save makes that is begun now
abbrev pub IsOldOrNew : Machine → Outcome → Type 0
IsOldOrNew m outcome = IsOldOr (made_of (is_armed m.mode) m) m outcome
