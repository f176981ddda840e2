use Rattle.std.proofs.Common.{◌+◌, ℕ, ap}
use Rattle.energy_budget.specs.Sums.{needed_level}
use Rattle.energy_budget.proofs.costs.Costs.need.Goals as goal

pub returns-clause-value : goal.returns-clause-value
unfolding needed_level
returns-clause-value c = ap (λ (n : ℕ). n + c.args.self.now.numbers.leak) c.floor.ensures.value
