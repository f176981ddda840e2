use Rattle.nv_session.proofs.Common.{assembly}
use Rattle.live_store.proofs.Turns.{turns_survived}
use Rattle.live_store.proofs.laws.file_stops_survived.Goals as goal

pub returns : goal.returns
returns g c = λ found image turns first it device gauge kept bytes stands takes is left.
    turns_survived g.K.ChannelPort found image first turns (assembly it _ gauge) bytes stands takes (c.stops_leave_what_devices_may.ensures.left device kept bytes is left)
