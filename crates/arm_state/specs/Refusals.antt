-- Why arming, disarming and a save are refused: the first condition that holds, in the order of the lines.
use Rattle.std.specs.Prelude.{◌≡◌, ◌⊎◌, ◌&&◌, ℕ, false, not, nat_lt, Option, Some, None, if◌then◌else◌}
use Rattle.arm_state.specs.declared.mode.Mode.{Mode}
use Rattle.arm_state.specs.declared.mode.Mode.TheVariants as modes
use Rattle.arm_state.specs.declared.refusal.ArmRefusal.{ArmRefusal}
use Rattle.arm_state.specs.declared.refusal.ArmRefusal.TheVariants.{NeedEnergy, SaveRunning, Unsettled, Disarming, Closed, Spent}
use Rattle.arm_state.specs.declared.refusal.SaveState.{SaveState}
use Rattle.arm_state.specs.Modes.{is_armed, is_stranded, is_disarming, has_ended}

-- before the gauge is read
abbrev pub arm_refusal : Mode → SaveState → Option ArmRefusal
arm_refusal mode saves =
    if is_armed mode then None else
    if has_ended mode then Some Closed else
    if is_disarming mode then Some Disarming else
    if saves.is_running then Some SaveRunning else
    if saves.is_unsettled then Some Unsettled else
    if saves.is_spent then Some Spent else None

-- after it was read
abbrev pub energy_refusal_of : ℕ → ℕ → Option ArmRefusal
energy_refusal_of need has = if nat_lt has need then Some (NeedEnergy need has) else None

abbrev pub disarm_refusal : Mode → Option ArmRefusal
disarm_refusal mode =
    if has_ended mode then Some Closed else
    if is_disarming mode then Some Disarming else None

abbrev pub save_refusal : Mode → SaveState → Option ArmRefusal
save_refusal mode saves =
    if has_ended mode then Some Closed else
    if saves.is_running then Some SaveRunning else
    if saves.is_spent && not (is_stranded mode) then Some Spent else None

-- no save runs, the device is settled, and there is a generation for a further image
pub record HasNoneInTheWay (saves : SaveState) : Type 0 where
  pub settled : saves.is_unsettled ≡ false
  pub running : saves.is_running ≡ false
  pub spent : saves.is_spent ≡ false

-- no save runs, and there is a generation for a further image or none is needed
pub record MayBegin (mode : Mode) (saves : SaveState) : Type 0 where
  pub running : saves.is_running ≡ false
  pub spent : (saves.is_spent ≡ false) ⊎ (mode ≡ modes.Stranded)
