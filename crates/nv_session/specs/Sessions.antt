-- Sessions as values.
use Rattle.std.specs.Prelude.{ℕ}
use Rattle.ddr4_timing.specs.Limits.{lines_of}
use Rattle.save_device.specs.Memory.{state_of}
use Rattle.slot_store.specs.Outcomes.{Outcome, restored}
use Rattle.interleave_map.specs.declared.ready.Interleaving.{Interleaving}
use Rattle.energy_budget.specs.Meter.{meter_gauge}
use Rattle.channel_port.specs.declared.port.ChannelPort.{Ghosts}
use Rattle.nv_machine.specs.State.{Setup}
use Rattle.nv_session.specs.declared.wires.Wires as wires
use Rattle.nv_session.specs.declared.session.Session.{Session}
use Rattle.nv_session.specs.Living.{SessionAt, device_state, innermost, session_at}

module _ {K A : Type 0} {L : Ghosts K} {W : wires.Ghosts A K} where
  -- the session as it is
  abbrev pub moment_in : Session K A L W → SessionAt L
  moment_in session = session_at session.life (device_state session.device) (meter_gauge session.gauge)

  -- how many lines the memory has, and what the device's bytes restore to
  abbrev pub line_count_in : Session K A L W → ℕ
  line_count_in session = lines_of session.profile.checked.geometry

  abbrev pub restored_in : Session K A L W → Outcome
  restored_in session = restored (line_count_in session) (state_of (innermost session.device)).bytes

  -- what doesn't change in a life of the session over a map
  abbrev pub setup_over : Session K A L W → Interleaving → Setup
  setup_over session map = record { shape = W.shape session.wires map; trail = session.profile.sizes.trail }
