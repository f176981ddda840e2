use Rattle.board_desk.proofs.Credits.{adds_up}
use Rattle.board_desk.proofs.laws.credits_add_up.Goals as goal

pub returns : goal.returns
returns g c = adds_up g.K.ChannelPort g.B.PartsName
