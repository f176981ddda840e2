use Rattle.std.proofs.Common.{rules}
use Rattle.arm_state.proofs.mode.Mode.after.Goals as goal

pub returns-in-Disarm-Armed : goal.returns-in-Disarm-Armed
returns-in-Disarm-Armed c = search rules

pub returns-in-FailSave-Disarming : goal.returns-in-FailSave-Disarming
returns-in-FailSave-Disarming c = search

pub returns-in-CloseSaved-Armed : goal.returns-in-CloseSaved-Armed
returns-in-CloseSaved-Armed c = search rules

pub returns-in_default-3 : goal.returns-in_default-3
returns-in_default-3 c = search rules
