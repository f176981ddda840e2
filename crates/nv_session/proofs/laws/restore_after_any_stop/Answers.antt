use Rattle.nv_session.proofs.Restoring.{stop_restored}
use Rattle.nv_session.proofs.laws.restore_after_any_stop.Goals as goal

pub returns : goal.returns
returns g c = stop_restored g.K.ChannelPort
