use Rattle.channel_set.proofs.Common.{◌≡◌, ◌≤◌, ◌*◌, length, take}
use Rattle.std.specs.List.{sum_by}
use Rattle.channel_set.proofs.set.ChannelSet.pending.Given as goal

abbrev pub invariant-loop-port : goal.invariant-loop-port
invariant-loop-port g l = (l.pending ≡ sum_by (λ port. length (g.K.ChannelPort.view port).waits.writes) (take l.port-index l.port-items)) × (l.pending ≤ 64 * l.port-index)
