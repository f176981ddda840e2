use Rattle.std.proofs.Common.{rules}
use Rattle.arm_state.proofs.mode.Mode.save_refusal.Goals as goal

pub returns : goal.returns
returns c = search rules
