-- What lay behind the locks is put in order.
use Rattle.std.proofs.Common.{◌≡◌, ◌∙◌, List, ap, arith, length, refl, subst, sym}
use Rattle.channel_log.specs.Seats.{AllLogs}
use Rattle.channel_locks.specs.Numbers.{AreRising}
use Rattle.channel_locks.specs.declared.locked_channel.LockedChannel.{LockedChannel}
use Rattle.channel_locks.proofs.Ordered.{each_number}
use Rattle.channel_locks.proofs.locked_channels.LockedChannels.into_inner.Given.{Over}
use Rattle.channel_locks.proofs.locked_channels.LockedChannels.into_inner.Goals as goal

abbrev Channels : Over → Type 0
Channels g = List (LockedChannel g.row.K.Denot g.row.B.Denot g.K.ChannelPort g.B.PartsName)

pub loop-unlocked-init : goal.loop-unlocked-init
loop-unlocked-init g c =
    let eight = c.args.self.eight in let room = c.into_inner-channels.result in let none = ap (λ (cs : Channels g). length cs) room.empty in
    record {
      left = omega (arith, eight);
      count = omega (arith, none);
      room = room.spacious;
      known = refl;
      rise = subst (λ (cs : Channels g). AreRising g.K.ChannelPort g.B.PartsName 0 8 cs) (sym room.empty) (omega arith);
    }

pub add_channel-requires-clause-known : goal.add_channel-requires-clause-known
add_channel-requires-clause-known g c = ap (λ (f : AllLogs). f.table) c.loop-unlocked.invariant.known ∙ c.requires.known

pub add_channel-requires-clause-eight : goal.add_channel-requires-clause-eight
add_channel-requires-clause-eight g c = ap (λ (f : AllLogs). length f.logs) c.loop-unlocked.invariant.known ∙ c.requires.eight

pub add_channel-requires-clause-rising : goal.add_channel-requires-clause-rising
add_channel-requires-clause-rising g c = c.loop-unlocked.invariant.rise

pub loop-unlocked-preserved : goal.loop-unlocked-preserved
loop-unlocked-preserved g c =
    let was = c.loop-unlocked.invariant in let did = c.add_channel.ensures in
    let left = was.left in let count = was.count in let room = was.room in
    let taken = c.remove.ensures.len in let added = did.count in let capacity = did.capacity in
    record {
      left = omega (arith, left, taken);
      count = omega (arith, count, added);
      room = omega (arith, room, capacity);
      known = did.known ∙ was.known;
      rise = did.rising;
    }

pub invariant_of-result : goal.invariant_of-result
invariant_of-result g c =
    let at = c.loop-unlocked.invariant in let past = c.loop-unlocked-test.false in let within = c.loop-unlocked.auto._unlocked-end in
    let count = at.count in
    record {
      numbered = each_number g.K.ChannelPort g.B.PartsName 0 8 c.loop-unlocked.channels.items at.rise (omega (arith, count, past, within));
      eight = omega (arith, count, past, within);
      spacious = at.room;
    }
