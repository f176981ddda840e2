-- What a profile makes of the cost numbers.
use Rattle.std.specs.Prelude.{◌≡◌, ℕ, ◌/◌}
use Rattle.ddr4_timing.specs.declared.timing.Checked.{Checked}
use Rattle.ddr4_timing.specs.Limits.{lines_of, entry_of, close_of}
use Rattle.energy_budget.specs.declared.costs.Costs.{Costs}
use Rattle.energy_budget.specs.declared.costs.TheConstants.{PAGE_LINES}
use Rattle.energy_budget.specs.CostNumbers.{close_cost_of, entry_cost_of}

-- the costs are reckoned for this profile
pub record AreReckonedFor (c : Checked) (costs : Costs) : Type 0 where
  pub channels : costs.channels ≡ c.geometry.channels
  pub ranks : costs.ranks ≡ c.geometry.ranks
  pub pages : costs.pages ≡ lines_of c.geometry / PAGE_LINES
  pub close : costs.close ≡ close_of c.timing c.geometry
  pub entry : costs.entry ≡ entry_of c.timing c.geometry

-- a drain's close step, and an entry step
abbrev pub close_cost : Costs → ℕ
close_cost costs = close_cost_of costs.numbers costs.ranks costs.close

abbrev pub entry_cost : Costs → ℕ
entry_cost costs = entry_cost_of costs.numbers costs.ranks costs.entry
