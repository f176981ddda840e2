-- What the answers of a life tell: commands, and events beside them.
use Rattle.std.specs.Prelude.{ℕ, List, [], ◌∷◌, ◌++◌, Option, Some, None, codes, max}
use Rattle.arm_state.specs.declared.loss.Loss.{Loss}
use Rattle.arm_state.specs.declared.loss.Loss.TheVariants as loss
use Rattle.command_trace.specs.declared.entry.ChannelCommand.{ChannelCommand}
use Rattle.nv_script.specs.declared.answer.Answer.{Answer}
use Rattle.nv_script.specs.declared.answer.Answer.TheVariants as answer
use Rattle.schedule_drawing.specs.declared.schedule.EventKind.{EventKind}
use Rattle.schedule_drawing.specs.declared.schedule.EventKind.TheVariants as event
use Rattle.schedule_drawing.specs.declared.schedule.ScheduleEvent.{ScheduleEvent}
use Rattle.schedule_drawing.specs.Drawing.{later}

-- the command that an answer tells, of a life whose clocks begin with this one
abbrev pub entry_told : ℕ → Answer → Option ChannelCommand
entry_told begin (answer.Issued channel command) =
    Some (record { channel = channel; command = record { clock = later begin command.clock; cmd = command.cmd } })
entry_told begin other = None

-- a loss of mains is the device's where it saved or failed, and else a mode's end alone
abbrev pub kind_of_loss : Loss → EventKind
kind_of_loss (loss.Saved generation count) = event.Device
kind_of_loss loss.Fault = event.Device
kind_of_loss other = event.Mode

-- the lane of events in which an answer stands, where it stands in one
abbrev pub kind_of : Answer → Option EventKind
kind_of answer.Formatted = Some event.Device
kind_of (answer.Restored generation count verdict) = Some event.Device
kind_of (answer.Saved generation count) = Some event.Device
kind_of (answer.Stepped step) = Some event.Device
kind_of answer.StepRetry = Some event.Device
kind_of (answer.RestoreRefused error) = Some event.Device
kind_of answer.SaveFault = Some event.Device
kind_of answer.ArmFault = Some event.Device
kind_of answer.FormatFault = Some event.Device
kind_of (answer.Lost loss) = Some (kind_of_loss loss)
kind_of (answer.Level reading mode) = Some event.Mode
kind_of answer.Armed = Some event.Mode
kind_of answer.Disarming = Some event.Mode
kind_of answer.StepDisarming = Some event.Mode
kind_of other = None

-- the mode that begins with a loss of mains that is the device's
abbrev pub mode_of_loss : Loss → Option (List ℕ)
mode_of_loss (loss.Saved generation count) = Some (codes "mains lost")
mode_of_loss loss.Fault = Some (codes "mains lost")
mode_of_loss other = None

-- the mode that begins with an answer of the device
abbrev pub mode_of : Answer → Option (List ℕ)
mode_of answer.Formatted = Some (codes "disarmed")
mode_of (answer.Restored generation count verdict) = Some (codes "disarmed")
mode_of (answer.Lost loss) = mode_of_loss loss
mode_of other = None

-- an event's clock and its lane of events
pub record EventPlace : Type 0 where
  pub clock : ℕ
  pub kind : EventKind

abbrev pub event_place : ScheduleEvent → EventPlace
event_place event = record { clock = event.clock; kind = event.kind }

-- the last clock of the commands that were told, and of one that an answer tells
abbrev pub latest_with : ℕ → Option ChannelCommand → ℕ
latest_with clock (Some entry) = max clock entry.command.clock
latest_with clock None = clock

abbrev pub clock_behind : ℕ → ℕ → Answer → ℕ
clock_behind begin clock answer = latest_with clock (entry_told begin answer)

-- an answer in its lane, where it stands in one
abbrev pub own_place : ℕ → Option EventKind → List EventPlace
own_place clock (Some kind) = record { clock = clock; kind = kind } ∷ []
own_place clock None = []

-- a mode that begins
abbrev pub mode_place : ℕ → Option (List ℕ) → List EventPlace
mode_place clock (Some word) = record { clock = clock; kind = event.Mode } ∷ []
mode_place clock None = []

abbrev pub places_told : ℕ → Answer → List EventPlace
places_told clock answer = own_place clock (kind_of answer) ++ mode_place clock (mode_of answer)

-- Each answer's events in their turn, at the last clock of the commands that were told up to there. The clocks of a life begin with the
-- first number, and the commands told before reach up to the second.
abbrev pub events_told : ℕ → ℕ → List Answer → List EventPlace
events_told begin clock [] = []
events_told begin clock (answer ∷ others) =
    places_told (clock_behind begin clock answer) answer ++ events_told begin (clock_behind begin clock answer) others
