use Rattle.std.proofs.Common.{ap, sym, ◌∙◌}
use Rattle.energy_budget.specs.declared.action.Action.{Action}
use Rattle.energy_budget.specs.Actions.{cost_of}
use Rattle.energy_budget.proofs.costs.Costs.cost.Goals as goal

pub returns-in-CloseStep-clause-value : goal.returns-in-CloseStep-clause-value
returns-in-CloseStep-clause-value c = c.args.self.now.is_close_step ∙ ap (λ (action : Action). cost_of c.args.self.now action) (sym c.in-CloseStep.is)
