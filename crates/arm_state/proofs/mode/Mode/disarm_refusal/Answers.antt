use Rattle.std.proofs.Common.{rules}
use Rattle.arm_state.proofs.mode.Mode.disarm_refusal.Goals as goal

pub returns-in-Closing : goal.returns-in-Closing
returns-in-Closing c = search rules
