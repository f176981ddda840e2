use Rattle.channel_set.proofs.Drained.{Draining}
use Rattle.channel_set.proofs.set.ChannelSet.drain.Given as goal

abbrev pub invariant-loop-port : goal.invariant-loop-port
invariant-loop-port g l = Draining g.K.ChannelPort l.fn.self (g.E.Energy.gauge l.fn.energy) l.port-index l.port-items (g.E.Energy.gauge l.energy)
