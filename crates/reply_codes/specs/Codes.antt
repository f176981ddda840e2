-- The codes that C sees, with their numbers.
use Rattle.std.specs.Prelude.{◌≢◌, ℕ, ◌%◌, ◌^◌, Result, Ok, Err}
use Rattle.arm_state.specs.declared.loss.Loss.{Loss}
use Rattle.arm_state.specs.declared.loss.Loss.TheVariants as loss
use Rattle.arm_state.specs.declared.mode.Mode.{Mode}
use Rattle.arm_state.specs.declared.mode.Mode.TheVariants as mode
use Rattle.arm_state.specs.declared.refusal.ArmReply.{ArmReply}
use Rattle.arm_state.specs.declared.refusal.ArmReply.TheVariants as armed
use Rattle.arm_state.specs.declared.refusal.DisarmReply.{DisarmReply}
use Rattle.arm_state.specs.declared.refusal.DisarmReply.TheVariants as disarmed
use Rattle.arm_state.specs.declared.refusal.ArmRefusal.{ArmRefusal}
use Rattle.arm_state.specs.declared.refusal.ArmRefusal.TheVariants as arm
use Rattle.arm_state.specs.declared.refusal.ReadRefusal.{ReadRefusal}
use Rattle.arm_state.specs.declared.refusal.ReadRefusal.TheVariants as read
use Rattle.arm_state.specs.declared.refusal.WriteRefusal.{WriteRefusal}
use Rattle.arm_state.specs.declared.refusal.WriteRefusal.TheVariants as write
use Rattle.channel_port.specs.declared.answers.Collected.{Collected}
use Rattle.channel_port.specs.declared.answers.Collected.TheVariants.{Data, Pending, Unknown}
use Rattle.channel_port.specs.declared.answers.Ticket.{Ticket}
use Rattle.noted_device.specs.declared.notes.Handed.{Handed}
use Rattle.noted_device.specs.declared.notes.Handed.TheVariants as handed
use Rattle.nv_machine.specs.declared.events.Accepted.{Accepted}
use Rattle.nv_machine.specs.declared.events.StepReply.{StepReply}
use Rattle.nv_machine.specs.declared.events.StepReply.TheVariants as step
use Rattle.nv_profile.specs.declared.reading.ProfileFault.{ProfileFault}
use Rattle.nv_profile.specs.declared.reading.ProfileFault.TheVariants as profile
use Rattle.open_life.specs.declared.opening.Found as found
use Rattle.open_life.specs.declared.opening.Found.TheVariants as founds
use Rattle.open_life.specs.declared.opening.OpenFault.{OpenFault}
use Rattle.open_life.specs.declared.opening.OpenFault.TheVariants as fault
use Rattle.open_life.specs.declared.turns.LineRead.{LineRead}
use Rattle.open_life.specs.declared.turns.LineRead.TheVariants.{Content, Waiting}
use Rattle.slot_store.specs.declared.head.Head.{Head}
use Rattle.slot_store.specs.declared.restoring.RestoreError.{RestoreError}
use Rattle.slot_store.specs.declared.restoring.RestoreError.TheVariants as restore
use Rattle.slot_store.specs.declared.restoring.Verdict.{Verdict}
use Rattle.slot_store.specs.declared.restoring.Verdict.TheVariants.{Complete, PossibleLoss}
use Rattle.reply_codes.specs.declared.codes.Numbers.{Numbers}
use Rattle.reply_codes.specs.declared.codes.Told.{Told}

-- a code of what wasn't done: neither that of a call that was, nor of an opening with a loss that may be, nor of a text that is no profile
abbrev pub IsRefusal : ℕ → Type 0
IsRefusal code = (code ≢ 0) × (code ≢ 10) × (code ≢ 2)

-- a code with its numbers, and one with none
abbrev pub told : ℕ → ℕ → ℕ → Told
told code first second = record { code = code; numbers = record { first = first; second = second } }

abbrev pub told_code : ℕ → Told
told_code code = told code 0 0

-- the same of a code that is answered and the numbers beside it
abbrev pub told_by : ℕ → Numbers → Told
told_by code numbers = record { code = code; numbers = numbers }

abbrev pub write_told : Result Accepted WriteRefusal → Told
write_told (Ok accepted) = told 0 accepted.number accepted.mark
write_told (Err write.Full) = told_code 16
write_told (Err (write.EnergyLow need has)) = told 17 need has
write_told (Err write.Disarming) = told_code 18
write_told (Err write.Closed) = told_code 19
write_told (Err write.TrailFull) = told_code 20
write_told (Err write.NoSuchLine) = told_code 21

-- a ticket's number is told by its low 64 bits
abbrev pub ticket_told : Ticket → Told
ticket_told ticket = told 23 ticket.channel (ticket.serial % 2 ^ 64)

abbrev pub collected_told : Ticket → Collected → Told
collected_told ticket (Data line bytes at) = told 0 line at
collected_told ticket Pending = ticket_told ticket
collected_told ticket Unknown = told_code 25

abbrev pub read_told : Result LineRead ReadRefusal → Told
read_told (Ok (Content bytes)) = told_code 0
read_told (Ok (Waiting ticket)) = ticket_told ticket
read_told (Err read.Full) = told_code 22
read_told (Err read.Closed) = told_code 19
read_told (Err read.NoSuchLine) = told_code 21

abbrev pub refusal_told : ArmRefusal → Told
refusal_told (arm.NeedEnergy need has) = told 32 need has
refusal_told arm.SaveRunning = told_code 33
refusal_told arm.Unsettled = told_code 34
refusal_told arm.Disarming = told_code 18
refusal_told arm.Closed = told_code 19
refusal_told arm.Spent = told_code 35
refusal_told arm.Device = told_code 7

abbrev pub arm_told : Result ArmReply ArmRefusal → Told
arm_told (Ok armed.Armed) = told 0 0 0
arm_told (Ok armed.AlreadyArmed) = told 0 1 0
arm_told (Err refusal) = refusal_told refusal

abbrev pub disarm_told : Result DisarmReply ArmRefusal → Told
disarm_told (Ok disarmed.Disarming) = told 0 0 0
disarm_told (Ok disarmed.AlreadyDisarmed) = told 0 1 0
disarm_told (Err refusal) = refusal_told refusal

abbrev pub mode_number : Mode → ℕ
mode_number mode.Disarmed = 0
mode_number mode.Armed = 1
mode_number mode.Disarming = 2
mode_number mode.Stranded = 3
mode_number mode.Closing = 4
mode_number mode.Saved = 5

abbrev pub mode_told : Mode → Told
mode_told now = told 0 (mode_number now) 0

abbrev pub level_told : ℕ → Mode → Told
level_told reading now = told 0 reading (mode_number now)

abbrev pub verdict_code : Verdict → ℕ
verdict_code Complete = 0
verdict_code (PossibleLoss after) = 10

abbrev pub restore_told : Head → Told
restore_told head = told (verdict_code head.verdict) head.newest.generation head.count

abbrev pub restore_code : RestoreError → ℕ
restore_code restore.NoImage = 5
restore_code (restore.Damaged slot) = 6
restore_code restore.WrongSize = 4
restore_code restore.Device = 7
restore_code restore.Memory = 1

abbrev pub save_told : Result StepReply ArmRefusal → Told
save_told (Ok (step.Saved generation count)) = told 0 generation count
save_told (Ok (step.Did made)) = told_code 48
save_told (Ok step.Waiting) = told_code 49
save_told (Ok step.Turned) = told_code 50
save_told (Ok step.NoSave) = told_code 51
save_told (Ok step.Retry) = told_code 52
save_told (Ok step.Fault) = told_code 53
save_told (Err refusal) = refusal_told refusal

abbrev pub loss_told : Loss → Told
loss_told (loss.Saved generation count) = told 0 generation count
loss_told loss.Unsaved = told_code 54
loss_told loss.Dark = told_code 55
loss_told loss.Fault = told_code 53
loss_told loss.Closed = told_code 19

-- a change that is handed out: the place and the number of its bytes
abbrev pub handed_told : Handed → Told
handed_told handed.Nothing = told_code 27
handed_told handed.Sync = told_code 26
handed_told (handed.Write at n) = told 0 at n
handed_told (handed.Longer n) = told 15 n 0

abbrev pub profile_code : ProfileFault → ℕ
profile_code profile.Refused = 2
profile_code profile.Memory = 1

-- what a device held, as an opening on it tells that
abbrev pub found_told : found.Found → Told
found_told (founds.Restored head) = restore_told head
found_told founds.Formatted = told_code 0

abbrev pub open_code : OpenFault → ℕ
open_code (fault.Restore error) = restore_code error
open_code fault.Format = 7
open_code fault.Memory = 1
