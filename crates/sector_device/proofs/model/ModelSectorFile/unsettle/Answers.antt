use Rattle.std.proofs.Common.{⊎_elim, inl, inr, arith}
use Rattle.sector_device.proofs.Touching.{beside_touched}
use Rattle.sector_device.proofs.model.ModelSectorFile.unsettle.Goals as goal

pub returns-then-n-gt0-clause-unsettled : goal.returns-then-n-gt0-clause-unsettled
returns-then-n-gt0-clause-unsettled c = λ place up.
    ⊎_elim (λ was. inl was) (λ w. inr (beside_touched c.args.at c.args.n place c.if-n-gt0.true (omega (arith, w.0)) (omega (arith, w.0, w.1, c.if-n-gt0.true)))) (c.unsettle.ensures.unsettled place up)
