use Rattle.std.proofs.Common.{rules}
use Rattle.arm_state.proofs.refusal.energy_refusal.Goals as goal

pub returns-then-has-need : goal.returns-then-has-need
returns-then-has-need c = search rules
