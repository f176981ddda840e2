use Rattle.std.proofs.lemmas.List.{length-replicate}
use Rattle.slot_store.proofs.Common.{ℕ, replicate}
use Rattle.slot_store.proofs.Stops.{stop_before}
use Rattle.slot_store.proofs.laws.stop_between_steps.Goals as goal

pub returns : goal.returns
returns c = λ candidates old memory run state image s left.
    stop_before candidates old run.plan memory run.tried state (replicate 32 0) (replicate 4096 0) (length-replicate {A = ℕ} 32 0) (length-replicate {A = ℕ} 4096 0) run.next image run.place s.0 left
