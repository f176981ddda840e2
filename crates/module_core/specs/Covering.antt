-- What is kept for a closing save, and what its drains and its steps do cost.
use Rattle.std.specs.Prelude.{ℕ, ◌+◌, ◌≤◌, length}
use Rattle.arm_state.specs.declared.loss.Loss.{Loss}
use Rattle.arm_state.specs.declared.loss.Loss.TheVariants as loss
use Rattle.energy_budget.specs.Actions.{save_actions, total_cost}
use Rattle.energy_budget.specs.Sums.{reserve}
use Rattle.channel_port.specs.declared.port.ChannelPort.{Ghosts}
use Rattle.channel_set.specs.declared.set.ChannelSet.{ChannelSet}
use Rattle.channel_set.specs.Draining.{cost_of_drains}
use Rattle.channel_set.specs.Set.{shape_of, view_of}

module _ {K : Type 0} (L : Ghosts K) where
  -- what the drains of the channels and the steps of a save behind them cost
  abbrev pub cost_of_closing : ChannelSet K L → ℕ
  cost_of_closing channels =
      let costs = (shape_of L channels).costs in cost_of_drains L channels costs.numbers + total_cost costs (save_actions costs.pages)

  -- what is kept for a closing save of the writes that wait in them
  abbrev pub kept_for : ChannelSet K L → ℕ
  kept_for channels = reserve (shape_of L channels).costs (length (view_of L channels).waits.writes)

  -- where all was saved, what was kept covered what it cost
  abbrev pub IsCovered : Loss → ChannelSet K L → Type 0
  IsCovered (loss.Saved generation count) channels = cost_of_closing channels ≤ kept_for channels
  IsCovered other channels = Unit {0}
