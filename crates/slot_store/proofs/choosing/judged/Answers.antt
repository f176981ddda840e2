use Rattle.slot_store.specs.Outcomes.{verdict_of}
use Rattle.slot_store.proofs.Common.{ℕ, ap, sym}
use Rattle.slot_store.proofs.choosing.judged.Goals as goal

pub returns-then-arm-eq0 : goal.returns-then-arm-eq0
returns-then-arm-eq0 c = ap (λ (arm : ℕ). verdict_of arm c.args.count) (sym c.if-arm-eq0.true)
