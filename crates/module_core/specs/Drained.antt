-- The parts of a loss of mains: the drains, and the closing save that follows.
use Rattle.std.specs.Prelude.{◌≡◌, ◌⊎◌, ℕ, List, Ok, OnOk, Err, None}
use Rattle.save_image.specs.Image.{Image}
use Rattle.slot_store.specs.Finishing.{Finish}
use Rattle.energy_budget.specs.declared.energy.Dark.{Dark}
use Rattle.energy_budget.specs.Gauge.{Gauge}
use Rattle.channel_port.specs.declared.port.ChannelPort.{Ghosts}
use Rattle.channel_port.specs.Draining.{DrainOrder, Paid}
use Rattle.channel_set.specs.Set.{ChannelsView, view_of}
use Rattle.channel_set.specs.Carrying.{CarriesAll, KeepsAll}
use Rattle.channel_set.specs.Draining.{DrainsAll, DrainsEach}
use Rattle.line_memory.specs.declared.Write.{Write}
use Rattle.line_memory.specs.Memory.{after}
use Rattle.slot_store.specs.declared.source.BrokenOff.TheVariants as broken
use Rattle.nv_machine.specs.State.{Store}
use Rattle.module_saves.specs.Device.{Holds}
use Rattle.module_saves.specs.Saving.{Knows}
use Rattle.module_core.specs.Stands.{Assembly, lines_of_module}
use Rattle.module_saves.specs.Closing.{IsReadyToClose, SavesAt, SavesClosing, saves_at}

-- the channels as they are seen, with the saves, the device and the gauge
pub record ClosingAt : Type 0 where
  pub channels : ChannelsView
  pub at : SavesAt

-- A payment for the drains was refused, so that no save was begun.
pub record DarkInDrains (order : DrainOrder) (s : Store) (old new : ClosingAt) : Type 0 where
  pub answer : Dark
  pub drains : DrainsAll order old.channels old.at.gauge (Err answer) new.channels new.at.gauge
  pub unasked : new.at.device ≡ old.at.device
  pub knows : Knows new.at.saves.newest new.at.saves.closed new.at.saves.unsettled s
  pub holds : Holds old.channels.shape.lines (record s { saving = None }) new.at.saves.saving new.at.device

-- The channels were drained in this order and the save was made, or both until something broke them off.
abbrev pub ClosesChannels : DrainOrder → Store → Image → Finish → ClosingAt → ClosingAt → Type 0
ClosesChannels order s made finish old new =
    ((finish ≡ Err broken.Refused) × DarkInDrains order s old new)
    ⊎ ((mid : Gauge) × DrainsAll order old.channels old.at.gauge (Ok tt) new.channels mid
    × SavesClosing old.channels.shape s made finish (record old.at { gauge = mid }) new.at)

module _ {K : Type 0} {L : Ghosts K} where
  abbrev pub closing_at : Assembly L → ClosingAt
  closing_at a = record { channels = view_of L a.it.channels; at = saves_at a.it.front.saves a.device a.gauge }

  -- whichever store the device held, where a save of what the channels carry was begun over it
  abbrev pub ClosesModule : DrainOrder → Finish → Assembly L → Assembly L → Type 0
  ClosesModule order finish old new =
      (s : Store) (made : Image) (base : List (List ℕ)) (start : ℕ) (writes : List Write) → IsReadyToClose (lines_of_module L old.it) s made old.it.front.saves old.device
      → CarriesAll L old.it.channels base start writes → after base writes ≡ made.memory
      → ClosesChannels order s made finish (closing_at old) (closing_at new)

  -- The channels were drained in this order, or a payment was refused.
  pub record HasDrained (order : DrainOrder) (drained : Paid) (old new : Assembly L) : Type 0 where
    pub drains : DrainsAll order (view_of L old.it.channels) old.gauge drained (view_of L new.it.channels) new.gauge
    pub each : OnOk drained (DrainsEach L old.it.channels new.it.channels)
    pub front : new.it.front ≡ old.it.front
    pub keeps : KeepsAll L old.it.channels new.it.channels
    pub device : new.device ≡ old.device

  -- whichever module the drains began with
  abbrev pub ClosesDrained : Paid → Finish → Assembly L → Assembly L → Type 0
  ClosesDrained drained finish mid new = (order : DrainOrder) (old : Assembly L) → HasDrained order drained old mid → ClosesModule order finish old new
