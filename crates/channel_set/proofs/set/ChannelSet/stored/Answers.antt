use Rattle.channel_set.proofs.Common.{arith, sym, ap, ◌∙◌, Place}
use Rattle.channel_set.proofs.Alike.{named, place-there, stands-for}
use Rattle.channel_set.proofs.set.ChannelSet.stored.Goals as goal

pub index-requires-2 : goal.index-requires-2
index-requires-2 g c =
    let channels = c.args.self.now in
    let place = named g.K.ChannelPort channels c.args.line c.place-place.result c.index.result.now c.requires c.place-place.ensures c.index.ensures in
    omega (arith, channels.shaped.known c.args.line c.requires, ap (λ (p : Place). p.channel) place)

pub stored-requires-clause-line : goal.stored-requires-clause-line
stored-requires-clause-line g c =
    let L = g.K.ChannelPort in let channels = c.args.self.now in let p = c.index-2.result.now in
    let at = stands-for L channels c.args.line c.place-place.result p c.requires (named L channels c.args.line c.place-place.result c.index.result.now c.requires c.place-place.ensures c.index.ensures) c.index-2.ensures in
    omega (arith, c.requires, (channels.are.each c.place-place.result.channel p at).lines)

pub stored-requires-clause-place : goal.stored-requires-clause-place
stored-requires-clause-place g c =
    let L = g.K.ChannelPort in let channels = c.args.self.now in let p = c.index-2.result.now in
    let at = stands-for L channels c.args.line c.place-place.result p c.requires (named L channels c.args.line c.place-place.result c.index.result.now c.requires c.place-place.ensures c.index.ensures) c.index-2.ensures in
    named L channels c.args.line c.place-place.result c.index.result.now c.requires c.place-place.ensures c.index.ensures ∙ sym (place-there L channels.terms channels.ports.items channels.are c.place-place.result.channel c.args.line p at)

pub stored-requires-clause-here : goal.stored-requires-clause-here
stored-requires-clause-here g c =
    let L = g.K.ChannelPort in let channels = c.args.self.now in let p = c.index-2.result.now in
    sym (channels.are.each c.place-place.result.channel p (stands-for L channels c.args.line c.place-place.result p c.requires (named L channels c.args.line c.place-place.result c.index.result.now c.requires c.place-place.ensures c.index.ensures) c.index-2.ensures)).number_is
