-- What a session keeps of its life.
use Rattle.nv_session.proofs.laws.sessions_keep_lives.Goals as goal

pub returns : goal.returns
returns g c = λ session it runs. session.living.lives it runs
