use Rattle.std.proofs.lemmas.Option.{slice_get_read}
use Rattle.channel_set.proofs.Common.{arith, ap, refl, sym, length, None, slice_get_within, OnMains}
use Rattle.channel_set.proofs.Alike.{are-set, stage-set, seen-set, shaped-set}
use Rattle.channel_set.proofs.Answered.{collected-remain, collected-there, new-everywhere}
use Rattle.channel_set.proofs.Carried.{carries-set}
use Rattle.channel_set.proofs.Issued.{issues-set}
use Rattle.channel_set.proofs.set.ChannelSet.collect.Goals as goal

pub returns-then-ticket-len-clause-collected : goal.returns-then-ticket-len-clause-collected
returns-then-ticket-len-clause-collected g c =
    let channels = c.args.self.now in
    let ports = channels.ports.items in (
      new-everywhere g.K.ChannelPort channels.terms ports channels.are g.met.K.ChannelPort.own_reads c.args.ticket
          (λ z there. absurd (omega (arith, slice_get_within ports c.args.ticket.channel z there, c.if-ticket-len.true, c.len.ensures))),
      refl,
    )

pub returns-then-ticket-len-clause-issued : goal.returns-then-ticket-len-clause-issued
returns-then-ticket-len-clause-issued g c = record { lists = refl; checked = refl; others = λ other apart. refl }

pub collect-requires : goal.collect-requires
collect-requires g c =
    let channels = c.args.self.now in
    let p = c.index_mut.result.now in
    let at = slice_get_read channels.ports.items (length channels.ports.items) c.args.ticket.channel p refl (omega (arith, c.if-ticket-len.false, c.len.ensures)) c.index_mut.ensures.value in
    record { here = sym (channels.are.each c.args.ticket.channel p at).number_is }

pub invariant_of-self : goal.invariant_of-self
invariant_of-self g c =
    let L = g.K.ChannelPort in
    let channels = c.args.self.now in
    let i = c.args.ticket.channel in
    let p = c.index_mut.result.now in
    let at = slice_get_read channels.ports.items (length channels.ports.items) i p refl (omega (arith, c.if-ticket-len.false, c.len.ensures)) c.index_mut.ensures.value in
    record { are = are-set L channels i p c.collect.new.self _ _ _ at c.collect.ensures.rest; shaped = shaped-set L channels i p c.collect.new.self at (ap (λ v. v.place_of) c.collect.ensures.rest); reckoned = channels.reckoned }

pub returns : goal.returns
returns g c =
    let L = g.K.ChannelPort in
    let channels = c.args.self.now in
    let ports = channels.ports.items in
    let i = c.args.ticket.channel in
    let p = c.index_mut.result.now in
    let q = c.collect.new.self in
    let at = slice_get_read ports (length ports) i p refl (omega (arith, c.if-ticket-len.false, c.len.ensures)) c.index_mut.ensures.value in
    let did = c.collect.ensures in
    record {
      collected = collected-there L channels.terms ports i p q channels.are at g.met.K.ChannelPort.own_reads c.args.ticket refl c.collect.result did.collected;
      rest = seen-set L channels i p q _ at did.rest;
      issued = issues-set L channels _ i p q None refl refl at did.issued;
      mains = stage-set L OnMains ports i p q _ _ at did.rest;
      keeps = carries-set L channels _ i p q refl refl at (ap (λ v. v.place_of) did.rest) (record { keeps = did.keeps; remain = collected-remain L p q c.args.ticket c.collect.result did.collected });
    }
