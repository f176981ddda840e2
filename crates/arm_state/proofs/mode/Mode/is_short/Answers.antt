use Rattle.std.proofs.Common.{rules}
use Rattle.arm_state.proofs.mode.Mode.is_short.Goals as goal

pub returns-then-is_armed : goal.returns-then-is_armed
returns-then-is_armed c = search rules
