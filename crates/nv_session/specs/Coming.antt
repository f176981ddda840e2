-- What calls on a module come to: events in turn.
use Rattle.std.specs.Prelude.{◌≡◌, List, [], ◌∷◌}
use Rattle.save_device.specs.Device.{DeviceState}
use Rattle.energy_budget.specs.Gauge.{Gauge}
use Rattle.channel_port.specs.declared.port.ChannelPort.{Ghosts}
use Rattle.module_core.specs.declared.module.Module.{Module}
use Rattle.nv_machine.specs.declared.events.Event.{Event}
use Rattle.nv_machine.specs.declared.events.Reply.{Reply}
use Rattle.nv_machine.specs.State.{Machine}
use Rattle.module_core.specs.Stands.{Assembly, ModuleStands, RunsTo, assembly}

-- what is told of events, their replies, and the machine before and after them
abbrev pub Tale : Type 1
Tale = List Event → List Reply → Machine → Machine → Type 0

-- this one event, with this reply
abbrev pub IsOneEvent : Event → Reply → Tale
IsOneEvent event reply events replies old new = (events ≡ event ∷ []) × (replies ≡ reply ∷ [])

module _ {K : Type 0} (L : Ghosts K) where
  -- A module stood for a machine. It has answered some events since, of which this is told.
  pub record ComesTo (Told : Tale) (old : Assembly L) (m : Machine) (new : Assembly L) : Type 0 where
    pub events : List Event
    pub replies : List Reply
    pub runs : RunsTo L events replies old m new
    pub told : Told events replies m runs.last

  -- the same of each machine that it may have stood for
  abbrev pub Comes : Tale → Assembly L → Assembly L → Type 0
  Comes Told old new = (m : Machine) → ModuleStands L old.it old.device m → ComesTo Told old m new

  -- the same of calls that ask neither the device nor the gauge
  abbrev pub ComesAlone : Tale → Module K L → Module K L → Type 0
  ComesAlone Told old new = (device : DeviceState) (gauge : Gauge) → Comes Told (assembly old device gauge) (assembly new device gauge)
