use Rattle.std.proofs.Common.{◌*◌, ◌^◌, ◌≤◌, arith}
use Rattle.std.proofs.Math.Nat.{mul-le-mul}
use Rattle.energy_budget.proofs.Totals.{reserve-closed}
use Rattle.energy_budget.proofs.costs.Costs.reserve.Goals as goal

pub returns-clause-value : goal.returns-clause-value
returns-clause-value c =
    rw (reserve-closed c.args.self.now c.args.pending, ← c.args.self.now.is_entry_step) (rw (← c.args.self.now.is_close_step) (omega (arith, c.args.self.now.is_without_entries)))

pub returns-clause-fits : goal.returns-clause-fits
returns-clause-fits c =
    let entries : c.args.pending * c.args.self.now.entry_step ≤ 1024 * 2 ^ 41 = mul-le-mul c.requires c.args.self.now.fit.1 in
    let rest = c.args.self.now.fit.2 in omega (arith, entries, rest)
