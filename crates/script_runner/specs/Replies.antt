-- Which answer tells of a reply of the session.
use Rattle.std.specs.Prelude.{ℕ, Result, Ok, Err, Option, Some, None}
use Rattle.ddr4_timing.specs.declared.command.Stamped.{Stamped}
use Rattle.slot_store.specs.declared.head.Head.{Head}
use Rattle.slot_store.specs.declared.restoring.RestoreError.{RestoreError}
use Rattle.arm_state.specs.declared.refusal.ArmRefusal.{ArmRefusal}
use Rattle.arm_state.specs.declared.refusal.ArmRefusal.TheVariants as refusals
use Rattle.arm_state.specs.declared.refusal.ArmReply.{ArmReply}
use Rattle.arm_state.specs.declared.refusal.ArmReply.TheVariants as arm
use Rattle.arm_state.specs.declared.refusal.DisarmReply.{DisarmReply}
use Rattle.arm_state.specs.declared.refusal.DisarmReply.TheVariants as disarm
use Rattle.nv_machine.specs.declared.events.Accepted.{Accepted}
use Rattle.arm_state.specs.declared.refusal.WriteRefusal.{WriteRefusal}
use Rattle.arm_state.specs.declared.refusal.ReadRefusal.{ReadRefusal}
use Rattle.nv_machine.specs.declared.events.StepReply.{StepReply}
use Rattle.nv_machine.specs.declared.events.StepReply.TheVariants as step
use Rattle.nv_session.specs.declared.turns.LineSeen.{LineSeen}
use Rattle.nv_session.specs.declared.turns.LineSeen.TheVariants as seen
use Rattle.nv_script.specs.declared.answer.Answer.{Answer}
use Rattle.nv_script.specs.declared.answer.Answer.TheVariants as answer

-- the answers to a write and to a read of a line
abbrev pub write_told : Result Accepted WriteRefusal → Answer
write_told (Ok accepted) = answer.Accepted accepted.number accepted.mark
write_told (Err refusal) = answer.WriteRefused refusal

abbrev pub read_told : ℕ → Result LineSeen ReadRefusal → Answer
read_told line (Ok (seen.Content bytes)) = answer.Content line bytes
read_told line (Ok seen.Waiting) = answer.ReadWaiting line
read_told line (Err refusal) = answer.ReadRefused refusal

-- the answer to one work on a channel
abbrev pub work_told : ℕ → Option Stamped → Answer
work_told channel (Some command) = answer.Issued channel command
work_told channel None = answer.Idle channel

-- the answer to a step of a save, and to a whole save, which waits where its turns didn't suffice
abbrev pub step_told : Result StepReply ArmRefusal → Answer
step_told (Ok (step.Did made)) = answer.Stepped made
step_told (Ok (step.Saved generation count)) = answer.Saved generation count
step_told (Ok step.Waiting) = answer.Waiting
step_told (Ok step.NoSave) = answer.Waiting
step_told (Ok step.Turned) = answer.StepDisarming
step_told (Ok step.Retry) = answer.StepRetry
step_told (Ok step.Fault) = answer.SaveFault
step_told (Err refusal) = answer.SaveRefused refusal

abbrev pub save_told : Result StepReply ArmRefusal → Answer
save_told (Ok (step.Did made)) = answer.Waiting
save_told (Ok step.Retry) = answer.Waiting
save_told reply = step_told reply

-- the answers to arming and to disarming
abbrev pub arm_told : Result ArmReply ArmRefusal → Answer
arm_told (Ok arm.Armed) = answer.Armed
arm_told (Ok arm.AlreadyArmed) = answer.ArmedAlready
arm_told (Err refusals.Device) = answer.ArmFault
arm_told (Err refusal) = answer.ArmRefused refusal

abbrev pub disarm_told : Result DisarmReply ArmRefusal → Answer
disarm_told (Ok disarm.Disarming) = answer.Disarming
disarm_told (Ok disarm.AlreadyDisarmed) = answer.DisarmedAlready
disarm_told (Err refusal) = answer.DisarmRefused refusal

-- the answer to a restore
abbrev pub restore_told : Result Head RestoreError → Answer
restore_told (Ok head) = answer.Restored head.newest.generation head.count head.verdict
restore_told (Err error) = answer.RestoreRefused error
