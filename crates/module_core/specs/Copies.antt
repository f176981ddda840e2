-- Modules of which one is a copy of the other.
use Rattle.std.specs.Prelude.{◌≡◌}
use Rattle.save_device.specs.Device.{DeviceState}
use Rattle.energy_budget.specs.Gauge.{Gauge}
use Rattle.channel_port.specs.declared.port.ChannelPort.{Ghosts}
use Rattle.channel_set.specs.Copies.{SameChannels}
use Rattle.module_core.specs.declared.module.Module.{Module}
use Rattle.module_core.specs.ModuleLives.{LifeSoFar}
use Rattle.module_core.specs.Stands.{ModuleStands, assembly, setup_of}
use Rattle.nv_machine.specs.State.{Machine}

module _ {K : Type 0} (L : Ghosts K) where
  -- the same front over the same channels
  pub record SameModule (old new : Module K L) : Type 0 where
    pub front : new.front ≡ old.front
    pub channels : SameChannels L old.channels new.channels

  -- So it has the same setup, stands for each machine that the other one stands for, and has lived as that has.
  pub record IsCopyOf (old new : Module K L) : Type 0 where
    pub same : SameModule old new
    pub setup : setup_of L new ≡ setup_of L old
    pub stands : (device : DeviceState) (m : Machine) → ModuleStands L old device m → ModuleStands L new device m
    pub lived : (device : DeviceState) (gauge : Gauge) → LifeSoFar L (assembly old device gauge) → LifeSoFar L (assembly new device gauge)
