-- The drains of all channels on backup.
use Rattle.std.specs.Prelude.{◌≡◌, ℕ, List, OnOk, map}
use Rattle.std.specs.List.{flat_map, sum_by}
use Rattle.energy_budget.specs.declared.action.Action.{Action}
use Rattle.energy_budget.specs.declared.costs.CostNumbers.{CostNumbers}
use Rattle.energy_budget.specs.Actions.{drain_actions, total_cost}
use Rattle.energy_budget.specs.Gauge.{Gauge}
use Rattle.channel_port.specs.declared.port.ChannelPort.{Ghosts}
use Rattle.channel_port.specs.Draining.{DrainOrder, Paid, PaysTogether, TakesTogether, payments_in, pending_each}
use Rattle.channel_port.specs.Waits.{Remain, emptied}
use Rattle.channel_set.specs.declared.set.ChannelSet.{ChannelSet}
use Rattle.channel_set.specs.Set.{ChannelsView}

-- what the drains of these ports cost together, by these numbers, and those of all channels
module _ {K : Type 0} (L : Ghosts K) where
  abbrev pub drains_cost : List K → CostNumbers → ℕ
  drains_cost ports numbers = sum_by (λ port. L.drain_cost port numbers) ports

  abbrev pub cost_of_drains : ChannelSet K L → CostNumbers → ℕ
  cost_of_drains channels = drains_cost channels.ports.items

  -- each channel is as its drain leaves it, once all of it was paid for
  abbrev pub DrainsEach : ChannelSet K L → ChannelSet K L → Type 0
  DrainsEach old new = new.ports.items ≡ map L.drained old.ports.items

-- the actions of the drains of all channels, and what is paid for them
abbrev pub drains_in : ChannelsView → List Action
drains_in v = flat_map drain_actions (pending_each v.shape.channels v.waits.writes)

abbrev pub paid_for_drains : ChannelsView → ℕ
paid_for_drains v = total_cost v.shape.costs (drains_in v)

-- The drains of the channels, in this order, were paid for, or a payment was refused. For each entry that was paid for one write
-- has gone to its array, from the first channel on, and in each the oldest first.
pub record DrainsAll (order : DrainOrder) (old : ChannelsView) (before : Gauge) (result : Paid) (new : ChannelsView) (later : Gauge) : Type 0 where
  pub pays : PaysTogether old.shape.costs (payments_in order (drains_in old)) before result later
  pub rest : new ≡ record old { waits = new.waits; array = new.array }
  pub takes : TakesTogether (payments_in order (drains_in old)) old.waits before result new.waits later
  pub remain : Remain old.waits.writes new.waits.writes
  pub dry : OnOk result (new.waits ≡ emptied old.waits)
