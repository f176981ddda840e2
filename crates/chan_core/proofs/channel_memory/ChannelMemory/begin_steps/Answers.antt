use Rattle.std.proofs.Common.{arith}
use Rattle.chan_core.proofs.Common.{contents_of}
use Rattle.chan_core.proofs.Alone.{left, steps-begin, steps-hold}
use Rattle.chan_core.proofs.channel_memory.ChannelMemory.begin_steps.Goals as goal

pub invariant_of-self : goal.invariant_of-self
invariant_of-self c =
    let s = contents_of c.self.inside in
    let are = c.self.invariant.are in
    record {
      are = rw c.lose_reads.ensures.none (steps-hold s c.lose_reads.new.waiting are (rw (← c.self.view_is) at c.requires) (left s c.lose_reads.new.waiting are c.lose_reads.ensures.waiting));
      room_for_reads = omega (arith, c.self.invariant.room_for_reads, c.lose_reads.ensures.most);
    }

pub returns : goal.returns
returns c =
    let s = contents_of c.self.inside in
    rw (← c.self.view_is, c.lose_reads.ensures.none) (steps-begin s c.lose_reads.new.waiting (left s c.lose_reads.new.waiting c.self.invariant.are c.lose_reads.ensures.waiting))
