use Rattle.std.proofs.Common.{◌≡◌, ◌∙◌, List, ap, subst, sym, ℕ}
use Rattle.gap_list.specs.Bounded.{Bounded}
use Rattle.frfcfs.specs.Queue.{Waiting}
use Rattle.wpq_core.specs.Queue.{Queue}
use Rattle.ddr4_timing.specs.declared.command.Stamped.{Stamped}
use Rattle.chan_core.specs.Contents.{AreContents, seen}
use Rattle.chan_core.specs.Inside.{contents_of}
use Rattle.chan_core.specs.declared.channel_memory.ChannelMemory.TheInside.{Inside}
use Rattle.chan_core.specs.declared.reads.OpenRead.{OpenRead}
use Rattle.chan_core.proofs.channel_memory.ChannelMemory.copy.Goals as goal

-- contents are the same where their parts are
same_contents : (m : Inside) (array : List (List ℕ)) (queue : Queue) (waiting : Waiting) (reads : List OpenRead) (commands : List Stamped) → array ≡ m.array.items → queue ≡ m.queue → waiting ≡ m.waiting
    → reads ≡ m.reads.items → commands ≡ m.issued.items → record (contents_of m) { array = array; queue = queue; waiting = waiting; reads = reads; commands = commands } ≡ contents_of m
same_contents m array queue waiting reads commands a q w r i =
    λ k. record (contents_of m) { array = a k; queue = q k; waiting = w k; reads = r k; commands = i k }

pub invariant_of-result : goal.invariant_of-result
invariant_of-result c =
    let m = c.self.inside in
    record {
      are = subst AreContents
          (sym (same_contents m c.in_ok-array.array.items c.in_ok-queue.queue c.in_ok-waiting.waiting c.in_ok-reads.reads.items c.in_ok-issued.issued.items
          (c.in_ok-array.ensures.items ∙ c.deref.ensures.value) c.in_ok-queue.ensures c.in_ok-waiting.ensures (ap (λ (l : Bounded OpenRead). l.items) c.in_ok-reads.ensures) (ap (λ trace. trace.items) c.in_ok-issued.ensures)))
          c.self.invariant.are;
      room_for_reads = rw c.in_ok-reads.ensures c.self.invariant.room_for_reads;
    }

pub returns : goal.returns
returns c =
    let m = c.self.inside in
    ap seen (same_contents m c.in_ok-array.array.items c.in_ok-queue.queue c.in_ok-waiting.waiting c.in_ok-reads.reads.items c.in_ok-issued.issued.items
    (c.in_ok-array.ensures.items ∙ c.deref.ensures.value) c.in_ok-queue.ensures c.in_ok-waiting.ensures (ap (λ (l : Bounded OpenRead). l.items) c.in_ok-reads.ensures) (ap (λ trace. trace.items) c.in_ok-issued.ensures))
    ∙ c.self.view_is
