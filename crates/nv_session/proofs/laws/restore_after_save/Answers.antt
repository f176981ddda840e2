use Rattle.nv_session.proofs.Restoring.{save_restored}
use Rattle.nv_session.proofs.laws.restore_after_save.Goals as goal

pub returns : goal.returns
returns g c = save_restored g.K.ChannelPort
