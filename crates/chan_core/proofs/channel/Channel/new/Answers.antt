use Rattle.std.proofs.Common.{refl, sym, subst, ap, arith}
use Rattle.gap_list.specs.Bounded.{Bounded}
use Rattle.line_memory.specs.Memory.{IsMemory}
use Rattle.line_memory.proofs.MemoryLaws.{zero_lines-IsMemory}
use Rattle.chan_core.proofs.Common.{OpenRead, last_clock}
use Rattle.frfcfs.proofs.refreshes.MarginEnds.{new_keeps}
use Rattle.chan_core.proofs.Holding.{new-holds}
use Rattle.chan_core.proofs.Sleeping.{new-awake}
use Rattle.chan_core.proofs.channel.Channel.new.Goals as goal

pub invariant_of-result : goal.invariant_of-result
invariant_of-result c =
    let queue = c.in_ok-with_depth.ensures in
    record {
      are = rw queue.empty
          (new-holds _ (subst (IsMemory _) (sym c.in_ok-array.ensures) (rw (← c.cells.ensures.is) (zero_lines-IsMemory c.cells.result))) (rw queue.empty at queue.queue) refl c.in_ok-with_room.ensures
          (ap (λ (l : Bounded OpenRead). l.items) c.in_ok-with_room-2.ensures) c.requires.reads refl);
      room_for_reads = omega (arith, ap (λ (l : Bounded OpenRead). l.most) c.in_ok-with_room-2.ensures);
    }

pub invariant_of-result-2 : goal.invariant_of-result-2
unfolding last_clock
invariant_of-result-2 c = rw (c.in_ok-with_capacity.ensures, c.new-2.ensures) (record {
  stands = c.new.ensures.stands;
  checked = c.new.ensures.checked;
  clock = refl;
  early = omega arith;
  recent = refl;
  capacity = refl;
  phase = record { in_time = λ not. new_keeps c.args.checked.now; awake = λ e rank within. new-awake rank; asleep = λ e. absurd cc };
})
