-- Sessions of which one is a copy of the other.
use Rattle.std.specs.Prelude.{◌≡◌, Option, Some, None}
use Rattle.save_device.specs.Copies.{AreFaultsAlike}
use Rattle.energy_budget.specs.Meter.{lie_of, meter_gauge}
use Rattle.channel_port.specs.declared.port.ChannelPort.{Ghosts}
use Rattle.module_core.specs.Copies.{IsCopyOf}
use Rattle.module_core.specs.declared.module.Module.{Module}
use Rattle.nv_session.specs.declared.session.Session.{Session}
use Rattle.nv_session.specs.declared.wires.Wires as wires

-- a copy of the life that runs, if one does
abbrev pub AreLivesAlike : {K : Type 0} (L : Ghosts K) → Option (Module K L) → Option (Module K L) → Type 0
AreLivesAlike L None None = Unit {0}
AreLivesAlike L (Some old) (Some new) = IsCopyOf L old new
AreLivesAlike L None (Some new) = ⊥
AreLivesAlike L (Some old) None = ⊥

module _ {K A : Type 0} {L : Ghosts K} {W : wires.Ghosts A K} where
  -- the same profile and wires, with a copy of the life that runs, on a device and a gauge that show the same and fail in the same calls
  pub record AreSessionsAlike (old new : Session K A L W) : Type 0 where
    pub profile : new.profile ≡ old.profile
    pub wires_are : new.wires ≡ old.wires
    pub life : AreLivesAlike L old.life new.life
    pub device : AreFaultsAlike old.device new.device
    pub gauge : meter_gauge new.gauge ≡ meter_gauge old.gauge
    pub lie : lie_of new.gauge ≡ lie_of old.gauge
