use Rattle.slot_store.proofs.StepsLeft.{steps_left-after}
use Rattle.slot_store.proofs.laws.one_step_less.Goals as goal

pub returns : goal.returns
returns c = λ run some. steps_left-after run.plan.lines run.next run.plan.capacity run.place some
