use Rattle.std.proofs.Common.{rules}
use Rattle.arm_state.proofs.mode.Mode.arm_refusal.Goals as goal

pub returns-then-saves-2 : goal.returns-then-saves-2
returns-then-saves-2 c = search rules
