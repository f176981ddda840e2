use Rattle.std.proofs.Common.{refl, arith}
use Rattle.energy_budget.proofs.wild.WildEnergy.pay.Goals as goal

pub returns-else-cost-level-clause-pays : goal.returns-else-cost-level-clause-pays
returns-else-cost-level-clause-pays c =
    record {
      breach = (λ same. record { falls = omega (arith, c.if-cost-level.false); refused = λ dark. c.if-cost-level.false }, λ kept. refl);
      counted = omega arith;
      same_leak = refl;
      called = c.note.ensures;
    }
