use Rattle.std.proofs.Common.{◌<◌, All, take}
use Rattle.channel_locks.specs.declared.locked_channel.LockedChannel.{LockedChannel}
use Rattle.channel_locks.proofs.ordering.place_of.Given as goal

abbrev pub invariant-loop-place : goal.invariant-loop-place
invariant-loop-place g l = All (λ (c : LockedChannel g.row.K.Denot g.row.B.Denot g.K.ChannelPort g.B.PartsName). c.number < l.fn.number) (take l.place l.fn.channels.items)
