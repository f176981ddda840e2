use Rattle.std.proofs.Math.Logic.{∥∥₁_map}
use Rattle.open_life.specs.Now.{now_of}
use Rattle.open_life.proofs.Goes.{survives_so_far}
use Rattle.open_life.proofs.laws.open_lives_survive.Goals as goal

pub returns : goal.returns
returns g c = λ life. ∥∥₁_map life.alive.lives (survives_so_far g.K.ChannelPort (now_of life))
