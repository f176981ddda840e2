use Rattle.channel_set.proofs.Common.{arith, refl, sym, ap, ◌∙◌, None, Place, OnMains}
use Rattle.channel_set.proofs.Alike.{are-set, stage-set, place-there, seen-set, shaped-set, stands-for}
use Rattle.channel_set.proofs.Counted.{above-there, full-there}
use Rattle.channel_set.proofs.Putting.{carries-put, puts-there}
use Rattle.channel_set.proofs.Issued.{issues-set}
use Rattle.channel_set.proofs.set.ChannelSet.put.Goals as goal

pub put-requires : goal.put-requires
put-requires g c =
    let L = g.K.ChannelPort in
    let channels = c.args.self.now in
    let i = c.args.place.channel in
    let p = c.index_mut.result.now in
    let at = stands-for L channels c.args.write.line c.args.place p c.requires.line c.requires.place c.index_mut.ensures.value in
    let is = channels.are.each i p at in
    record {
      line = omega (arith, c.requires.line, is.lines);
      place = c.requires.place ∙ sym (place-there L channels.terms channels.ports.items channels.are i c.args.write.line p at);
      here = sym is.number_is;
      above = above-there L c.args.number channels.ports.items i p at c.requires.above;
      room = full-there L channels.terms channels.ports.items channels.are g.met.K.ChannelPort.own_writes i p at ∙ c.requires.room;
      mains = c.requires.mains i p at;
    }

pub invariant_of-self : goal.invariant_of-self
invariant_of-self g c =
    let L = g.K.ChannelPort in
    let channels = c.args.self.now in
    let i = c.args.place.channel in
    let p = c.index_mut.result.now in
    let at = stands-for L channels c.args.write.line c.args.place p c.requires.line c.requires.place c.index_mut.ensures.value in
    record { are = are-set L channels i p c.put.new.self _ _ _ at c.put.ensures.puts; shaped = shaped-set L channels i p c.put.new.self at (ap (λ v. v.place_of) c.put.ensures.puts); reckoned = channels.reckoned }

pub returns : goal.returns
returns g c =
    let L = g.K.ChannelPort in
    let channels = c.args.self.now in
    let i = c.args.place.channel in
    let p = c.index_mut.result.now in
    let q = c.put.new.self in
    let at = stands-for L channels c.args.write.line c.args.place p c.requires.line c.requires.place c.index_mut.ensures.value in
    record {
      puts = puts-there L channels.terms channels.ports.items channels.are g.met.K.ChannelPort.own_writes c.args.number i c.args.write p q at (record { puts = c.put.ensures.puts; carries = c.put.ensures.carries });
      rest = seen-set L channels i p q _ at c.put.ensures.puts;
      issued = issues-set L channels _ i p q None refl refl at c.put.ensures.issued;
      mains = stage-set L OnMains channels.ports.items i p q _ _ at c.put.ensures.puts c.requires.mains;
      carries = carries-put L channels _ i c.args.number c.args.write p q refl refl at (ap (λ (x : Place). x.channel) (sym c.requires.place)) (record { puts = c.put.ensures.puts; carries = c.put.ensures.carries });
    }
