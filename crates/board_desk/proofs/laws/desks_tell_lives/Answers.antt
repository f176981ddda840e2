use Rattle.board_desk.proofs.Recorded.{record_tells}
use Rattle.board_desk.proofs.laws.desks_tell_lives.Goals as goal

pub returns : goal.returns
returns g c = λ desk m s. record_tells g.B.PartsName desk m s
