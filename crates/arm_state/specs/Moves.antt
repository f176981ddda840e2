-- The table of moves.
use Rattle.arm_state.specs.declared.mode.Mode.{Mode}
use Rattle.arm_state.specs.declared.mode.Mode.TheVariants.{Disarmed, Armed, Disarming, Stranded, Closing, Saved}
use Rattle.arm_state.specs.declared.moves.Move.{Move}
use Rattle.arm_state.specs.declared.moves.Move.TheVariants.{Arm, Disarm, RunLow, EndSave, FailSave, CloseSaved, CloseUnsaved}

-- the mode after a move; where the table has no line for the two, the mode stays
abbrev pub mode_after : Move → Mode → Mode
mode_after Arm Disarmed = Armed
mode_after Disarm Armed = Disarming
mode_after RunLow Armed = Disarming
mode_after EndSave Disarming = Disarmed
mode_after EndSave Stranded = Disarmed
mode_after FailSave Disarming = Stranded
mode_after CloseSaved Armed = Saved
mode_after CloseSaved Disarming = Saved
mode_after CloseSaved Stranded = Saved
mode_after CloseUnsaved Disarmed = Closing
mode_after CloseUnsaved Armed = Closing
mode_after CloseUnsaved Disarming = Closing
mode_after CloseUnsaved Stranded = Closing
mode_after _ mode = mode
