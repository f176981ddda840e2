use Rattle.slot_store.proofs.GivenUp.{given_up}
use Rattle.slot_store.proofs.laws.given_up.Goals as goal

pub returns : goal.returns
returns c = λ candidates old memory run state s going. given_up candidates old run.plan memory run.next run.tried state going s.0
