use Rattle.channel_locks.proofs.Parts.{part_of_channel}
use Rattle.channel_locks.proofs.locked_channel.LockedChannel.always.Goals as goal

pub returns : goal.returns
returns g c =
    let slot = c.args.self.now in
    part_of_channel g.K.ChannelPort g.B.PartsName slot.part slot.number slot.seat.log slot.kept.part_is
