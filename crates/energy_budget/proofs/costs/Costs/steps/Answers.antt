use Rattle.std.proofs.Common.{arith}
use Rattle.energy_budget.proofs.Totals.{steps-closed}
use Rattle.energy_budget.proofs.costs.Costs.steps.Goals as goal

pub returns-clause-value : goal.returns-clause-value
returns-clause-value c = omega (arith, steps-closed c.args.self.now c.args.pending)
