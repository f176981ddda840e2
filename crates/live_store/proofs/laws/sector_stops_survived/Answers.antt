use Rattle.nv_session.proofs.Common.{assembly}
use Rattle.live_store.proofs.Turns.{turns_survived}
use Rattle.live_store.proofs.laws.sector_stops_survived.Goals as goal

pub returns : goal.returns
returns g c = λ found image turns first it device gauge kept bytes stands takes is left.
    turns_survived g.K.ChannelPort found image first turns (assembly it _ gauge) _ stands takes (c.stops_find_what_devices_may.ensures.left device kept bytes is left)
