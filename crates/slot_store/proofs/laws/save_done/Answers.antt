use Rattle.slot_store.proofs.Common.{SavingAt, Step, subst}
use Rattle.slot_store.proofs.GivenUp.{save_done}
use Rattle.slot_store.proofs.laws.save_done.Goals as goal

pub returns : goal.returns
returns c = λ candidates old memory run state s done.
    save_done candidates old run.plan memory run.tried state (subst (λ (next : Step). SavingAt candidates old run.plan memory next run.tried state) done s.0)
