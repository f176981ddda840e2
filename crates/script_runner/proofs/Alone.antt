-- A call of a session that asks neither its device nor its gauge.
use Rattle.std.proofs.Common.{◌≡◌, sym, subst}
use Rattle.script_runner.proofs.Common.{Ghosts, GoesOnAlone, GoesOnBy, Setup, Tale, device_state, moment_in, session_at}
use Rattle.save_device.specs.declared.fuse.Fuse.{Fuse}
use Rattle.save_device.specs.declared.memory.MemoryDevice.{MemoryDevice}
use Rattle.save_device.specs.declared.one_fault.OneFault.{OneFault}
use Rattle.energy_budget.specs.declared.meter.Meter.{Meter}
use Rattle.energy_budget.specs.Meter.{meter_gauge}
use Rattle.nv_session.specs.declared.session.Session.{Session}
use Rattle.nv_session.specs.declared.wires.Wires as wires

-- it goes on as a session at a moment
pub goes_alone : {K A : Type 0} (L : Ghosts K) {W : wires.Ghosts A K} (Told : Setup → Tale) (old new : Session K A L W) → new.device ≡ old.device → new.gauge ≡ old.gauge
    → GoesOnAlone L Told old.life new.life → GoesOnBy L Told (moment_in old) (moment_in new)
goes_alone L {W = W} Told old new device gauge goes =
    subst (λ (d : OneFault (Fuse MemoryDevice)). GoesOnBy L Told (moment_in old) (session_at new.life (device_state d) (meter_gauge new.gauge))) (sym device)
    (subst (λ (m : Meter). GoesOnBy L Told (moment_in old) (session_at new.life (device_state old.device) (meter_gauge m))) (sym gauge) (goes (device_state old.device) (meter_gauge old.gauge)))
