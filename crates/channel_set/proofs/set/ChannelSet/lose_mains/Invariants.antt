use Rattle.channel_set.proofs.Lists.{Moved}
use Rattle.channel_set.proofs.Turned.{LosesMains}
use Rattle.channel_set.proofs.set.ChannelSet.lose_mains.Given as goal

abbrev pub invariant-loop-port : goal.invariant-loop-port
invariant-loop-port g l = Moved (LosesMains g.K.ChannelPort) l.port-index l.initial.port-items l.port-items
