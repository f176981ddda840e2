use Rattle.chan_core.specs.Inside.{contents_of}
use Rattle.chan_core.proofs.Holding.{hold-holds}
use Rattle.chan_core.proofs.channel_memory.ChannelMemory.set_hold.Goals as goal

pub invariant_of-self : goal.invariant_of-self
invariant_of-self c = record { are = hold-holds (contents_of c.self.inside) c.args.from c.hold.new.self c.self.invariant.are c.hold.ensures; room_for_reads = c.self.invariant.room_for_reads }
