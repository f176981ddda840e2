use Rattle.channel_set.proofs.Lists.{Moved}
use Rattle.channel_set.proofs.Turned.{HoldsFrom}
use Rattle.channel_set.proofs.set.ChannelSet.hold.Given as goal

abbrev pub invariant-loop-port : goal.invariant-loop-port
invariant-loop-port g l = Moved (HoldsFrom g.K.ChannelPort l.from) l.port-index l.initial.port-items l.port-items
