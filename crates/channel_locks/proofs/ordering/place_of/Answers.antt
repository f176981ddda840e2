-- The place of a number.
use Rattle.std.proofs.Common.{◌<◌, ◌≤◌, IfSome, Option, arith, subst, sym}
use Rattle.std.proofs.lemmas.List.Elements.{All-more}
use Rattle.std.proofs.lemmas.Option.{slice_get_past}
use Rattle.channel_locks.specs.declared.locked_channel.LockedChannel.{LockedChannel}
use Rattle.channel_locks.proofs.ordering.place_of.Given.{Over}
use Rattle.channel_locks.proofs.ordering.place_of.Goals as goal

abbrev Channel : Over → Type 0
Channel g = LockedChannel g.row.K.Denot g.row.B.Denot g.K.ChannelPort g.B.PartsName

pub loop-place-preserved : goal.loop-place-preserved
loop-place-preserved g c =
    let less = c.loop-place-test.true in let end = c.len-place-end.ensures in let lower = c.if-index-number.false in
    let below : c.index.result.now.number < c.args.number = omega (arith, lower) in
    All-more (λ (it : Channel g). it.number < c.args.number) c.args.channels.now.items c.loop-place.place c.index.result.now (omega (arith, less, end)) c.loop-place.invariant
    (subst (λ (it : Channel g). it.number < c.args.number) c.index.ensures below)

pub returns-clause-next : goal.returns-clause-next
returns-clause-next g c =
    let end = c.len.ensures in
    subst (λ (at : Option (Channel g)). IfSome at (λ (it : Channel g). c.args.number ≤ it.number)) (sym (slice_get_past c.args.channels.now.items c.len.result (omega (arith, end)))) tt
