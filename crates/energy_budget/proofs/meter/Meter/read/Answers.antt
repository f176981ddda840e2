use Rattle.std.proofs.Common.{refl, arith}
use Rattle.energy_budget.proofs.meter.Meter.read.Goals as goal

pub returns-clause-reads : goal.returns-clause-reads
returns-clause-reads c =
    record {
      breach = (λ same. record { falls = omega (arith, c.saturating_sub-shown.ensures); told = refl }, λ kept. refl);
      counted = omega arith;
      same_leak = refl;
      called = c.note.ensures;
    }
