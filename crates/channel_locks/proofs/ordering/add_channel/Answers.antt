-- A channel goes behind those with lower numbers.
use Rattle.std.proofs.Common.{◌≡◌, ◌∙◌, ◌<◌, List, arith, subst, sym}
use Rattle.channel_locks.specs.Numbers.{AreRising}
use Rattle.channel_locks.specs.declared.locked_channel.LockedChannel.{LockedChannel}
use Rattle.channel_locks.proofs.Ordered.{higher, one_more, put_in}
use Rattle.channel_locks.proofs.ordering.add_channel.Given.{Over}
use Rattle.channel_locks.proofs.ordering.add_channel.Goals as goal

abbrev Channels : Over → Type 0
Channels g = List (LockedChannel g.row.K.Denot g.row.B.Denot g.K.ChannelPort g.B.PartsName)

pub returns-clause-rising : goal.returns-clause-rising
returns-clause-rising g c =
    let L = g.K.ChannelPort in let P = g.B.PartsName in
    let channels = c.args.channels.now.items in let channel = c.compare.new.self in let place = c.place_of-place.result in
    let there = c.compare.ensures.agreed.there in let same = c.compare.ensures.number in let eight = c.requires.eight in
    let below : channel.number < 8 = omega (arith, there, same, eight) in
    let found = put_in c.insert.result channels c.insert.new.self.items place channel c.insert.ensures.items (c.insert.ensures.succeeds c.requires.room) in
    subst (λ (cs : Channels g). AreRising L P 0 8 cs) (sym found)
    (one_more L P 0 8 channels place channel (omega arith) below c.requires.rising c.place_of-place.ensures.lower
    (higher L P channel.number _ (sym c.has_number.ensures ∙ c.if-has_number.false) c.place_of-place.ensures.next))
