-- An open life as it is.
use Rattle.save_device.specs.declared.device.SaveDevice as device
use Rattle.energy_budget.specs.Meter.{meter_gauge}
use Rattle.channel_port.specs.declared.port.ChannelPort.{Ghosts}
use Rattle.module_core.specs.Stands.{Assembly, assembly}
use Rattle.open_life.specs.declared.life.OpenLife.{OpenLife}

-- with its device and its gauge
abbrev pub now_of : {K D : Type 0} {L : Ghosts K} {S : device.Ghosts D} → OpenLife K D L S → Assembly L
now_of {S = S} life = assembly life.running (S.state life.device) (meter_gauge life.gauge)
