-- Which refusal an event meets: the first whose condition holds.
use Rattle.std.specs.Prelude.{◌==◌, ◌||◌, ℕ, ◌+◌, ◌-◌, ◌^◌, Bool, nat_le, is_some, Option, Some, None, if◌then◌else◌}
use Rattle.arm_state.specs.declared.refusal.SaveState.{SaveState}
use Rattle.arm_state.specs.Modes.{is_disarming, has_ended, is_short}
use Rattle.energy_budget.specs.Sums.{needed_level}
use Rattle.channel_port.specs.Shape.{is_full_at, is_full_of_reads_at}
use Rattle.arm_state.specs.declared.refusal.WriteRefusal.{WriteRefusal}
use Rattle.arm_state.specs.declared.refusal.WriteRefusal.TheVariants as write
use Rattle.arm_state.specs.declared.refusal.ReadRefusal.{ReadRefusal}
use Rattle.arm_state.specs.declared.refusal.ReadRefusal.TheVariants as read
use Rattle.nv_machine.specs.State.{Setup, Machine, all_of, pending_of, newest_of}

-- what the gauge has to show while this many writes wait
abbrev pub need_for : Setup → ℕ → ℕ
need_for setup pending = needed_level setup.shape.costs pending

-- while armed: the last reading is too low for what waits
abbrev pub is_low : Setup → Machine → Bool
is_low setup m = is_short m.mode m.reading (need_for setup (pending_of m))

-- while armed: it is too low for one write more
abbrev pub lacks_energy : Setup → Machine → Bool
lacks_energy setup m = is_short m.mode m.reading (need_for setup (pending_of m + 1))

-- as many writes are stored as there is room for, or the next one would have the number 2^62
abbrev pub is_trail_full : Setup → Machine → Bool
is_trail_full setup m = (all_of m - m.cut == setup.trail) || (all_of m == 2 ^ 62)

-- what may stand in the way of arming and of a save; over a newest image of so great a generation none is begun
abbrev pub saves_of : Machine → SaveState
saves_of m = record {
  is_running = is_some m.store.saving;
  is_unsettled = m.store.unsettled;
  is_spent = nat_le (2 ^ 62) (newest_of m).generation;
}

abbrev pub write_refusal : Setup → Machine → ℕ → Option WriteRefusal
write_refusal setup m line =
    if nat_le setup.shape.lines line then Some write.NoSuchLine
    else if has_ended m.mode then Some write.Closed
    else if is_disarming m.mode then Some write.Disarming
    else if is_trail_full setup m then Some write.TrailFull
    else if is_full_at setup.shape m.waits line then Some write.Full
    else if lacks_energy setup m then Some (write.EnergyLow (need_for setup (pending_of m + 1)) m.reading)
    else None

abbrev pub read_refusal : Setup → Machine → ℕ → Option ReadRefusal
read_refusal setup m line =
    if nat_le setup.shape.lines line then Some read.NoSuchLine
    else if has_ended m.mode then Some read.Closed
    else if is_full_of_reads_at setup.shape m.waits line then Some read.Full
    else None
