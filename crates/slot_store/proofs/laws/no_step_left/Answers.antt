use Rattle.slot_store.proofs.StepsLeft.{no_steps_left}
use Rattle.slot_store.proofs.laws.no_step_left.Goals as goal

pub returns : goal.returns
returns c = λ run none. no_steps_left run.plan.lines run.next run.place none
