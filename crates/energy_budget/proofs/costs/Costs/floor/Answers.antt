use Rattle.std.proofs.Common.{◌+◌, ◌*◌, ℕ, ap, ◌∙◌}
use Rattle.energy_budget.specs.Sums.{reserve, backing_level, floor_level}
use Rattle.energy_budget.proofs.costs.Costs.floor.Goals as goal

pub returns-clause-value : goal.returns-clause-value
unfolding floor_level backing_level
returns-clause-value c =
    ap (λ (n : ℕ). n + c.args.self.now.numbers.leak * (c.steps.result + 1)) c.reserve.ensures.value
    ∙ ap (λ (n : ℕ). reserve c.args.self.now c.args.pending + c.args.self.now.numbers.leak * (n + 1)) c.steps.ensures.value
