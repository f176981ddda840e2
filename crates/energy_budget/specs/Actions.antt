-- A closing save as the list of actions that are paid for one by one.
use Rattle.std.specs.Prelude.{ℕ, List, [], ◌∷◌, ◌++◌, max, nat_lt, replicate, if◌then◌else◌}
use Rattle.std.specs.List.{sum_by, flat_map}
use Rattle.energy_budget.specs.declared.action.Action.{Action}
use Rattle.energy_budget.specs.declared.action.Action.TheVariants.{CloseStep, EntryStep, CloseGate, WriteHeader, WritePage, OpenGate, Sync}
use Rattle.energy_budget.specs.declared.costs.CostNumbers.{CostNumbers}
use Rattle.energy_budget.specs.declared.costs.Costs.{Costs}
use Rattle.energy_budget.specs.CostNumbers.{page_cost_of}
use Rattle.energy_budget.specs.Costs.{close_cost, entry_cost}

abbrev pub cost_of : Costs → Action → ℕ
cost_of costs CloseStep = close_cost costs
cost_of costs EntryStep = entry_cost costs
cost_of costs CloseGate = costs.numbers.e_mark
cost_of costs WriteHeader = costs.numbers.e_mark
cost_of costs WritePage = page_cost_of costs.numbers
cost_of costs OpenGate = costs.numbers.e_mark
cost_of costs Sync = costs.numbers.e_sync

-- what these actions cost together
unfoldable pub total_cost : Costs → List Action → ℕ
total_cost costs actions = sum_by (cost_of costs) actions

-- the drain of a channel on which this many writes are pending
unfoldable pub drain_actions : ℕ → List Action
drain_actions pending = CloseStep ∷ replicate pending EntryStep

-- from a save's pages on, this many of them
unfoldable pub page_actions : ℕ → List Action
page_actions pages = replicate pages WritePage ++ WriteHeader ∷ Sync ∷ OpenGate ∷ Sync ∷ []

-- a save of this many pages
unfoldable pub save_actions : ℕ → List Action
save_actions pages = CloseGate ∷ Sync ∷ page_actions pages

-- a closing save of channels with these numbers of pending writes, one channel after another
unfoldable pub closing_actions : ℕ → List ℕ → List Action
closing_actions pages pending = flat_map drain_actions pending ++ save_actions pages

-- the dearest step of a save
abbrev pub dearest_of : CostNumbers → Action
dearest_of n =
    if nat_lt (max n.e_mark n.e_sync) (page_cost_of n) then WritePage else
    if nat_lt n.e_mark n.e_sync then Sync else CloseGate

-- The actions of a closing save of k pending writes, whichever channels they are pending on. As often as it may make a step
-- again, the dearest one stands in the list once more.
unfoldable pub actions_for : Costs → ℕ → List Action
actions_for costs k =
    replicate costs.channels CloseStep ++ replicate k EntryStep ++ save_actions costs.pages
    ++ replicate costs.retries (dearest_of costs.numbers)
