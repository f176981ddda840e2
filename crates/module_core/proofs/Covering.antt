-- What is kept for a closing save is no less than what it costs.
use Rattle.std.specs.Prelude.{OnOk, sum}
use Rattle.std.specs.List.{flat_map}
use Rattle.energy_budget.specs.declared.costs.CostNumbers.{CostNumbers}
use Rattle.energy_budget.specs.Actions.{closing_actions, drain_actions, save_actions, total_cost}
use Rattle.energy_budget.proofs.Rising.{reserve-le}
use Rattle.energy_budget.proofs.Totals.{closing-cost, total_cost-append}
use Rattle.channel_port.specs.Draining.{pending_each}
use Rattle.channel_port.specs.declared.port.ChannelPort.{Ghosts}
use Rattle.channel_set.specs.declared.set.ChannelSet.{ChannelSet}
use Rattle.channel_set.specs.Draining.{cost_of_drains, paid_for_drains}
use Rattle.nv_machine.proofs.Payments.{length-pending_each, sum_pending_each}
use Rattle.module_core.specs.Covering.{cost_of_closing, kept_for}
use Rattle.module_core.specs.Draining.{EndsHoldAndReads}
use Rattle.module_core.proofs.Common.{ℕ, ◌+◌, ◌∙◌, ◌≡◌, ◌≤◌, ChannelsView, Costs, Err, List, Ok, Result, ap, arith, length, shape_of, view_of}

-- what is so is so of a good result
pub on-ok : {A E : Type 0} (X : Type 0) (result : Result A E) → X → OnOk result X
on-ok X (Ok value) so = so
on-ok X (Err error) so = tt

closing-parts : (costs : Costs) (pending : List ℕ) → total_cost costs (closing_actions costs.pages pending) ≡ total_cost costs (flat_map drain_actions pending) + total_cost costs (save_actions costs.pages)
unfolding closing_actions
closing-parts costs pending = total_cost-append costs (flat_map drain_actions pending) (save_actions costs.pages)

-- the channels as mains were lost, and as their drains begin
pub covered : {K : Type 0} (L : Ghosts K) (old at : ChannelSet K L) → EndsHoldAndReads L old at → ((numbers : CostNumbers) → cost_of_drains L at numbers ≡ cost_of_drains L old numbers)
    → cost_of_drains L at (shape_of L at).costs.numbers ≤ paid_for_drains (view_of L at) → cost_of_closing L old ≤ kept_for L old
covered L old at ends same covers =
    let v = view_of L old in
    let costs = v.shape.costs in
    let each = pending_each v.shape.channels v.waits.writes in
    let size : length each ≡ costs.channels = length-pending_each v.shape.channels v.waits.writes ∙ old.shaped.channels in
    let cost : cost_of_drains L at (shape_of L at).costs.numbers ≡ cost_of_drains L old costs.numbers = ap (λ (x : ChannelsView). cost_of_drains L at x.shape.costs.numbers) ends.is ∙ same costs.numbers in
    omega (arith, covers, cost, ap paid_for_drains ends.is, closing-parts costs each, closing-cost costs each size, reserve-le costs (sum each) (length v.waits.writes) (sum_pending_each v.shape.channels v.waits.writes))
