use Rattle.std.proofs.Common.{◌≡◌, ℕ, List, Some, slice_get, get_or, sym, ap, ◌∙◌, arith}
use Rattle.std.proofs.lemmas.Option.{get_or_from_slice_get, slice_get_within}
use Rattle.gap_list.specs.Bounded.{Bounded}
use Rattle.chan_core.proofs.Common.{IsIndexOfSerial, OpenRead, contents_of}
use Rattle.chan_core.proofs.Answering.{collect-holds}
use Rattle.chan_core.proofs.Fields.{fields_of}
use Rattle.chan_core.proofs.Telling.{collect-data, collect-pending, collect-unknown}
use Rattle.chan_core.proofs.channel.Channel.collect.Goals as goal

pub index_of_serial-requires : goal.index_of_serial-requires
index_of_serial-requires c = rw c.as_slice.ensures c.self-inside.invariant.are.reads.serials

pub returns-in_default-clause-answers : goal.returns-in_default-clause-answers
returns-in_default-clause-answers c =
    rw (← c.self.view_is, ← c.self-inside.view_is) (collect-unknown (contents_of (fields_of c.self-inside.invariant)) c.args.ticket (rw c.as_slice.ensures at c.in_default.ensures))

-- the read that was found
found : (serial index : ℕ) (reads : List OpenRead) (none : OpenRead) → IsIndexOfSerial serial reads (Some index) → (slice_get reads index ≡ Some (get_or reads index none)) × ((get_or reads index none).serial ≡ serial)
found serial index reads none (r, here, named) =
    let is = get_or_from_slice_get reads index r none here in (here ∙ ap Some (sym is), ap (λ (x : OpenRead). x.serial) is ∙ named)

pub take-requires : goal.take-requires
take-requires c =
    let m = fields_of c.self-inside.invariant in
    let (r, here, named) = rw c.as_slice.ensures at c.in-Some.ensures in slice_get_within m.reads.items c.in-Some.index r here

pub returns-in-Some-bytes-clause-answers : goal.returns-in-Some-bytes-clause-answers
returns-in-Some-bytes-clause-answers c =
    let s = contents_of (fields_of c.self-inside.invariant) in
    let (there, named) = found c.args.ticket.serial c.in-Some.index s.reads _ (rw c.as_slice.ensures at c.in-Some.ensures) in
    rw (← c.self.view_is, ← c.self-inside.view_is, c.as_slice-2.ensures)
    (collect-data s c.args.ticket c.in-Some.index _ c.in-Some-bytes.bytes c.take.new.self.items c.if-ticket-self.false (record { at = there; named = named }) (rw c.as_slice-2.ensures at c.in-Some-bytes.is) (ap (λ (l : Bounded OpenRead). l.items) c.take.ensures.left))

pub returns-in-None-clause-answers : goal.returns-in-None-clause-answers
returns-in-None-clause-answers c =
    let s = contents_of (fields_of c.self-inside.invariant) in
    let (there, named) = found c.args.ticket.serial c.in-Some.index s.reads _ (rw c.as_slice.ensures at c.in-Some.ensures) in
    rw (← c.self.view_is, ← c.self-inside.view_is) (collect-pending s c.args.ticket c.in-Some.index _ c.if-ticket-self.false (record { at = there; named = named }) (rw c.as_slice-2.ensures at c.in-None.is))

pub invariant_of-self-inside : goal.invariant_of-self-inside
invariant_of-self-inside c =
    let s = contents_of (fields_of c.self-inside.invariant) in
    let (there, named) = found c.args.ticket.serial c.in-Some.index s.reads _ (rw c.as_slice.ensures at c.in-Some.ensures) in
    let left = ap (λ (l : Bounded OpenRead). l.items) c.take.ensures.left in
    record {
      are = collect-holds s c.take.new.self.items c.in-Some.index _ c.in-Some-bytes.bytes c.self-inside.invariant.are there (rw c.as_slice-2.ensures at c.in-Some-bytes.is) left;
      room_for_reads = omega (arith, c.self-inside.invariant.room_for_reads, ap (λ (l : Bounded OpenRead). l.most) c.take.ensures.left);
    }

pub invariant_of-self : goal.invariant_of-self
invariant_of-self c =
    let is = rw (← c.self-inside.view_is) at c.self.invariant in
    let phase = is.phase in
    record { stands = is.stands; checked = is.checked; clock = is.clock; early = is.early; recent = is.recent; capacity = is.capacity; phase = record { in_time = phase.in_time; awake = phase.awake; asleep = phase.asleep } }
