use Rattle.std.proofs.Common.{ap, sym}
use Rattle.ddr4_timing.specs.declared.command.Command.{Command}
use Rattle.energy_budget.specs.CostNumbers.{command_cost}
use Rattle.energy_budget.proofs.costs.CostNumbers.command_cost.Goals as goal

pub returns-in-Sre : goal.returns-in-Sre
returns-in-Sre c = ap (λ (cmd : Command). command_cost c.args.self.now cmd) (sym c.in-Sre.is)
