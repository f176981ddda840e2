use Rattle.std.proofs.Common.{refl, sym, ap, arith}
use Rattle.gap_list.specs.Bounded.{Bounded}
use Rattle.chan_core.proofs.Common.{OpenRead, contents_of}
use Rattle.chan_core.proofs.Fields.{fields_of}
use Rattle.chan_core.proofs.Going.{running-few}
use Rattle.chan_core.proofs.Holding.{few-pending, few-steps_begun, get-holds}
use Rattle.chan_core.proofs.Kept.{refuted}
use Rattle.chan_core.proofs.Telling.{asks, line-here, room-for-one}
use Rattle.chan_core.proofs.channel.Channel.get_at.Goals as goal

pub returns-in-Some-clause-answers : goal.returns-in-Some-clause-answers
returns-in-Some-clause-answers c =
    let free = rw (← c.self.view_is, ← c.self-inside.view_is) at (refuted c.is_full_of_reads.result c.is_full_of_reads.ensures c.if-is_full_of_reads.false) in
    let is = c.cell_of-cell.ensures in
    let newest = rw is.is at c.in-Some.ensures in
    rw (← c.self.view_is, ← c.self-inside.view_is)
    (free, newest, line-here (contents_of (fields_of c.self-inside.invariant)) c.self-inside.invariant.are _ c.in-Some.bytes (rw is.is at is.within) newest, refl)

pub push-requires : goal.push-requires
push-requires c =
    let are = c.self-inside.invariant.are in
    let few = few-pending _ are in
    let free = rw (← c.self.view_is, ← c.self-inside.view_is) at (refuted c.is_full_of_reads.result c.is_full_of_reads.ensures c.if-is_full_of_reads.false) in
    let one = room-for-one (contents_of (fields_of c.self-inside.invariant)) _ refl are free in
    let commands = running-few _ (rw (← c.self-inside.view_is) at c.self.invariant) in
    record { room = omega (arith, are.room, few, are.queue.few, one); next = omega (arith, are.few_seqs, few, are.few_reads, are.most, are.queue.few, are.queue.most, commands) }

pub overflow_add-self : goal.overflow_add-self
overflow_add-self c =
    let are = c.self-inside.invariant.are in
    let few = few-pending _ are in
    let commands = running-few _ (rw (← c.self-inside.view_is) at c.self.invariant) in
    omega (arith, are.few_serials, few, are.few_reads, are.most, are.queue.few, are.queue.most, commands, few-steps_begun (fields_of c.self-inside.invariant).phase)

pub returns-in-None-clause-answers : goal.returns-in-None-clause-answers
returns-in-None-clause-answers c =
    let free = rw (← c.self.view_is, ← c.self-inside.view_is) at (refuted c.is_full_of_reads.result c.is_full_of_reads.ensures c.if-is_full_of_reads.false) in
    let is = c.cell_of-cell.ensures in
    let reads = rw c.next-seq.ensures at (ap (λ (l : Bounded OpenRead). l.items) c.push-in-None.ensures) in
    rw (← c.self.view_is, ← c.self-inside.view_is) (
      free,
      rw is.is at c.in-None.ensures,
      refl,
      asks (contents_of (fields_of c.self-inside.invariant)) c.push.new.self c.push-in-None.new.self.items c.args.line c.args.at _ c.cell_of-cell.result c.self-inside.invariant.are is.within is.is c.in-None.ensures c.push.ensures.requests reads,
    )

pub invariant_of-self-inside : goal.invariant_of-self-inside
invariant_of-self-inside c =
    let are = c.self-inside.invariant.are in
    let free = rw (← c.self.view_is, ← c.self-inside.view_is) at (refuted c.is_full_of_reads.result c.is_full_of_reads.ensures c.if-is_full_of_reads.false) in
    let lies = rw (← c.self.view_is, ← c.self-inside.view_is) at c.requires.lies_in in
    let channel = rw (← c.self.view_is, ← c.self-inside.view_is) at c.requires.here in
    let reads = rw c.next-seq.ensures at (ap (λ (l : Bounded OpenRead). l.items) c.push-in-None.ensures) in
    record {
      are = get-holds _ c.push.new.self c.push-in-None.new.self.items c.args.line c.args.at c.args.place c.cell_of-cell.result are c.push.ensures.next c.push.ensures.most c.push.ensures.requests reads c.in-None.ensures
          (room-for-one (contents_of (fields_of c.self-inside.invariant)) _ refl are free) lies channel (sym c.cell_of-cell.ensures.is);
      room_for_reads = omega (arith, c.self-inside.invariant.room_for_reads, ap (λ (l : Bounded OpenRead). l.most) c.push-in-None.ensures);
    }
