use Rattle.std.proofs.Common.{arith}
use Rattle.std.proofs.lemmas.Bool.{false≢true}
use Rattle.energy_budget.proofs.meter.MeterEnergy.pay.Goals as goal

pub returns-then-cost-self-clause-paid : goal.returns-then-cost-self-clause-paid
returns-then-cost-self-clause-paid c = (λ paid. absurd (false≢true paid), λ enough. absurd (omega (arith, c.if-unwrap_or-cost.true, c.unwrap_or.ensures, enough)))

pub returns-else-cost-self-clause-paid : goal.returns-else-cost-self-clause-paid
returns-else-cost-self-clause-paid c = (λ paid. absurd (false≢true paid), λ enough. absurd (omega (arith, c.if-unwrap_or-cost.true, c.unwrap_or.ensures, enough)))
