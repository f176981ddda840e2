use Rattle.channel_set.proofs.Carried.{carries-none}
use Rattle.channel_set.proofs.set.ChannelSet.new.Goals as goal

pub returns-clause-carries : goal.returns-clause-carries
returns-clause-carries g c = λ base start memory none each. carries-none g.K.ChannelPort _ base start memory none each
