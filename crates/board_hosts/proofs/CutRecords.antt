-- What is recorded of a life tells what the whole life does, whatever was cut off it.
use Rattle.std.proofs.Common.{◌≡◌, sym, subst}
use Rattle.board_hosts.proofs.Common.{Machine, RecordedModule, StandsWith}
use Rattle.line_memory.specs.History.{Recorded, TellsSameFrom, cut_at}
use Rattle.line_memory.proofs.Moving.{told_the_same}
use Rattle.save_device.specs.declared.device.SaveDevice.{Ghosts as DeviceGhosts}
use Rattle.channel_port.specs.declared.port.ChannelPort.{Ghosts}
use Rattle.board_hosts.proofs.Keeping.{begins_within}
use Rattle.board_hosts.specs.Kept.{whole_record}

pub records_tell : {K D E : Type 0} (L : Ghosts K) (M : DeviceGhosts D) (it : RecordedModule K D E L) (m : Machine) → StandsWith L M it m
    → TellsSameFrom it.history.start (whole_record m it.history.room) it.history
records_tell L M it m with =
    let life : Recorded = whole_record m it.history.room in
    let within = begins_within L M it m with.stands in
    let told : TellsSameFrom m.cut life (cut_at m.cut life) = told_the_same m.cut life within.0 within.1 in
    let stored : it.history ≡ cut_at m.cut life = with.stored in
    subst (λ (h : Recorded). TellsSameFrom h.start life h) (sym stored) told
