use Rattle.std.proofs.Common.{length, take, ap, ◌∙◌, arith}
use Rattle.std.proofs.lemmas.List.{with_items_is}
use Rattle.chan_core.proofs.Common.{contents_of, writes_by}
use Rattle.wpq_core.proofs.PendingLaws.{length-after_pending}
use Rattle.chan_core.proofs.Alone.{alone-holds, alone-issues, alone-oldest, fits-some, left, one-write}
use Rattle.chan_core.proofs.Serving.{line-within}
use Rattle.chan_core.proofs.channel_memory.ChannelMemory.issue_alone.Goals as goal

pub store_by-requires : goal.store_by-requires
store_by-requires c =
    let s = contents_of c.self.inside in
    let are = c.self.invariant.are in
    let enough = fits-some s are c.args.command.cmd (rw (← c.self.view_is) at c.requires.oldest) in
    record {
      queue = are.queue;
      oldest = λ one. rw c.deref_mut.ensures.value (alone-oldest s c.lose_reads.new.waiting (left s c.lose_reads.new.waiting are c.lose_reads.ensures.waiting) (line-within s are) (omega (arith, one, enough)));
    }

pub invariant_of-self : goal.invariant_of-self
invariant_of-self c =
    let s = contents_of c.self.inside in
    let are = c.self.invariant.are in
    let k = writes_by c.args.command.cmd in
    let stored = c.store_by.ensures in
    let size = ap length (rw c.deref_mut.ensures.value at stored.array) ∙ length-after_pending s.array (take k s.queue.writes) in
    let filled = with_items_is c.self.inside.array c.store_by.new.array (omega (arith, size, c.self.inside.array.ok)) in
    record {
      are = rw (filled, c.lose_reads.ensures.none, c.note.ensures.noted)
          (alone-holds s c.args.command k c.args.phase c.store_by.new.array c.store_by.new.queue c.lose_reads.new.waiting c.store_by.new.waiting are (left s c.lose_reads.new.waiting are c.lose_reads.ensures.waiting) c.requires.single (one-write c.args.command.cmd) size
          (stored.whole (rw (← c.deref_mut.ensures.value) at are.array.whole)) stored.queue stored.waiting);
      room_for_reads = omega (arith, c.self.invariant.room_for_reads, c.lose_reads.ensures.most);
    }

pub returns-clause-issues : goal.returns-clause-issues
returns-clause-issues c =
    let s = contents_of c.self.inside in
    let are = c.self.invariant.are in
    let stored = c.store_by.ensures in
    let array-is = rw c.deref_mut.ensures.value at stored.array in
    let size = ap length array-is ∙ length-after_pending s.array (take (writes_by c.args.command.cmd) s.queue.writes) in
    let filled = with_items_is c.self.inside.array c.store_by.new.array (omega (arith, size, c.self.inside.array.ok)) in
    rw (← c.self.view_is, filled, c.lose_reads.ensures.none)
    (alone-issues s c.args.command c.args.phase c.store_by.new.array c.store_by.new.queue c.lose_reads.new.waiting c.store_by.new.waiting c.note.new.self.items (left s c.lose_reads.new.waiting are c.lose_reads.ensures.waiting) array-is stored.queue stored.waiting c.note.ensures.noted c.requires.single (rw (← c.self.view_is) at c.requires.asleep))
