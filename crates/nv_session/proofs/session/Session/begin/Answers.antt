use Rattle.std.proofs.Common.{sym, subst}
use Rattle.nv_session.proofs.Common.{IsShapeFor, Setup, assembly, device_state, meter_gauge}
use Rattle.nv_session.proofs.Going.{begins_living}
use Rattle.nv_session.proofs.session.Session.begin.Goals as goal

pub invariant_of-self-clause-living : goal.invariant_of-self-clause-living
invariant_of-self-clause-living g c =
    let it = c.args.self.now in
    begins_living g.K.ChannelPort it.profile (assembly c.args.life (device_state it.device) (meter_gauge it.gauge)) it.living.size
    (subst (λ (s : Setup). IsShapeFor it.profile s.shape) (sym c.requires.over) (it.fits c.args.map)) c.requires.lives c.requires.cut
