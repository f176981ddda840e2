use Rattle.std.proofs.Common.{◌∷◌, [], length, ap, sym, arith, length-append}
use Rattle.chan_core.proofs.Common.{Queue, contents_of, pending_write}
use Rattle.chan_core.proofs.Fields.{fields_of}
use Rattle.chan_core.proofs.Going.{running-few}
use Rattle.chan_core.proofs.Holding.{put-holds, few-pending}
use Rattle.chan_core.proofs.Telling.{adds}
use Rattle.chan_core.proofs.channel.Channel.put_at.Goals as goal

pub push-requires : goal.push-requires
push-requires c =
    let m = fields_of c.self-inside.invariant in
    let are = c.self-inside.invariant.are in
    let pushed = c.in-Ok.ensures.pushed in
    let few = few-pending (contents_of m) are in
    let commands = running-few _ (rw (← c.self-inside.view_is) at c.self.invariant) in
    record {
      room = omega (arith, are.room, few, are.few_reads, c.try_push.ensures.queue.few, ap (λ (q : Queue). q.depth) pushed, ap (λ (q : Queue). length q.writes) pushed, length-append m.queue.writes (pending_write c.args.number c.cell_of-cell.result c.args.write.«data» ∷ []));
      next = omega (arith, are.few_seqs, few, are.few_reads, are.most, are.queue.few, are.queue.most, commands);
    }

pub invariant_of-self-inside-2 : goal.invariant_of-self-inside-2
invariant_of-self-inside-2 c =
    let lies = rw (← c.self.view_is, ← c.self-inside.view_is) at c.requires.place.lies_in in
    let channel = rw (← c.self.view_is, ← c.self-inside.view_is) at c.requires.place.here in
    record {
      are = put-holds _ c.try_push.new.self c.push.new.self c.args.number c.args.write.«data» c.args.place c.cell_of-cell.result c.self-inside.invariant.are c.push.ensures.next c.push.ensures.most c.try_push.ensures.queue c.in-Ok.ensures.pushed
          (rw c.is_held-held.ensures at c.push.ensures.requests) lies channel (sym c.cell_of-cell.ensures.is);
      room_for_reads = c.self-inside.invariant.room_for_reads;
    }

pub returns-clause-adds : goal.returns-clause-adds
returns-clause-adds c =
    rw (← c.self.view_is, ← c.self-inside.view_is)
    (adds (contents_of (fields_of c.self-inside.invariant)) c.try_push.new.self c.push.new.self c.args.number c.args.write.«data» _ c.cell_of-cell.result c.cell_of-cell.ensures.is c.in-Ok.ensures.pushed (rw c.is_held-held.ensures at c.push.ensures.requests))
