-- What a saver does at its turn.
use Rattle.std.specs.Prelude.{◌||◌, ℕ, Bool, true, false, nat_lt, if◌then◌else◌}
use Rattle.arm_state.specs.declared.mode.Mode.{Mode}
use Rattle.arm_state.specs.declared.mode.Mode.TheVariants.{Disarmed, Armed, Stranded}
use Rattle.arm_state.specs.declared.refusal.SaveState.{SaveState}
use Rattle.arm_state.specs.Modes.{has_ended}
use Rattle.nv_machine.specs.declared.events.StepReply.TheVariants as step
use Rattle.nv_machine.specs.State.{Machine, all_of}
use Rattle.nv_machine.specs.Refusals.{saves_of}
use Rattle.board_hosts.specs.declared.saver.SaverTurn.{SaverTurn}
use Rattle.board_hosts.specs.declared.saver.SaverTurn.TheVariants.{Begin, Step, Rest, End}
use Rattle.board_hosts.specs.declared.saver.Saving.{Saving}
use Rattle.board_hosts.specs.declared.saver.Saving.TheVariants as savings
use Rattle.worker_turns.specs.declared.shift.Working.{Working}
use Rattle.worker_turns.specs.declared.shift.Working.TheVariants as working

-- where no save runs, one is to be begun: while stranded; and while writes are accepted where some were since the newest
-- image, or where the device failed since a save last ended well
abbrev pub needs_save : Mode → Bool → ℕ → ℕ → Bool
needs_save Stranded unsettled saved accepted = true
needs_save Disarmed unsettled saved accepted = unsettled || nat_lt saved accepted
needs_save Armed unsettled saved accepted = unsettled || nat_lt saved accepted
needs_save mode unsettled saved accepted = false

abbrev pub turn_at : Mode → SaveState → ℕ → ℕ → SaverTurn
turn_at mode saves saved accepted =
    if has_ended mode then End else
    if saves.is_running then Step else
    if needs_save mode saves.is_unsettled saved accepted then Begin else Rest

-- the turn of a machine whose newest image has so many writes
abbrev pub turn_of : Machine → ℕ → SaverTurn
turn_of m saved = turn_at m.mode (saves_of m) saved (all_of m)

-- the turn that was taken
abbrev pub turn_taken : Saving → SaverTurn
turn_taken (savings.Began result) = Begin
turn_taken (savings.Stepped reply) = Step
turn_taken savings.Rested = Rest
turn_taken savings.Closed = End

-- how a saver goes on behind its turn: it has worked, or had nothing to do or has to wait, or mains were lost
abbrev pub working_of : Saving → Working
working_of (savings.Began result) = working.Worked
working_of (savings.Stepped step.Waiting) = working.Rested
working_of (savings.Stepped reply) = working.Worked
working_of savings.Rested = working.Rested
working_of savings.Closed = working.Closed
