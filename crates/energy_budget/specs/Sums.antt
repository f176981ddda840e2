-- What a closing save of k pending writes takes, and what a gauge has to show for it.
use Rattle.std.specs.Prelude.{ℕ, ◌+◌, ◌*◌, length}
use Rattle.energy_budget.specs.declared.costs.Costs.{Costs}
use Rattle.energy_budget.specs.Actions.{total_cost, actions_for}

-- the energy of all its actions
unfoldable pub reserve : Costs → ℕ → ℕ
reserve costs k = total_cost costs (actions_for costs k)

-- how many actions are paid for
unfoldable pub steps : Costs → ℕ → ℕ
steps costs k = length (actions_for costs k)

-- the reserve, and the leak of so many ticks of the gauge, with the one at the loss of mains
unfoldable pub backing_level : Costs → ℕ → ℕ → ℕ
backing_level costs k ticks = reserve costs k + costs.numbers.leak * (ticks + 1)

-- how often the gauge is ticked at most in a save on mains that may make steps again
abbrev pub save_ticks : Costs → ℕ
save_ticks costs = costs.pages + 6 + costs.retries

-- the least level for a closing save, and no more than a tick for each of its actions
unfoldable pub floor_level : Costs → ℕ → ℕ
floor_level costs k = backing_level costs k (steps costs k)

-- the least reading at which writes may be acknowledged: the next one may take the leak
unfoldable pub needed_level : Costs → ℕ → ℕ
needed_level costs k = floor_level costs k + costs.numbers.leak
