-- What a stop at any moment of a session's life leaves.
use Rattle.nv_session.proofs.SessionLives.{survives}
use Rattle.nv_session.proofs.laws.sessions_survive.Goals as goal

pub returns : goal.returns
returns g c = survives g.K.ChannelPort
