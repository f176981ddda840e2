use Rattle.arm_state.proofs.mode.Mode.is_armed.Goals as goal

pub returns-in-Armed : goal.returns-in-Armed
returns-in-Armed c = search
