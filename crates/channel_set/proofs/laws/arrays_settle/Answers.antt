use Rattle.channel_set.proofs.Settling.{settled}
use Rattle.channel_set.proofs.laws.arrays_settle.Goals as goal

pub returns : goal.returns
returns g c = λ channels base start writes n carries none waits. settled g.K.ChannelPort channels base start writes carries n g.met.K.ChannelPort.settled none waits
