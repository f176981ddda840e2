use Rattle.std.proofs.Common.{rules}
use Rattle.arm_state.proofs.mode.Mode.is_disarming.Goals as goal

pub returns-in_default : goal.returns-in_default
returns-in_default c = search rules
