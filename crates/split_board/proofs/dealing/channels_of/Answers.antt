-- Each channel has its seat and its port.
use Rattle.std.proofs.Common.{◌≡◌, ◌∙◌, ℕ, ◌+◌, ◌-◌, ◌<◌, ◌++◌, List, [], ◌∷◌, ap, arith, length, map, min, subst, sym}
use Rattle.std.proofs.lemmas.List.{append-nil}
use mathlib.Core.List.{append_assoc}
use Rattle.channel_locks.specs.declared.locked_channel.LockedChannel.{LockedChannel}
use Rattle.channel_locks.specs.Numbers.{AreNumbered}
use Rattle.channel_locks.specs.Unlocked.{port_in, ports_in}
use Rattle.channel_locks.proofs.Ordered.{none_numbered, one_before, put_in}
use Rattle.split_board.proofs.Slots.{emptied}
use Rattle.split_board.proofs.dealing.channels_of.Given.{Over}
use Rattle.split_board.proofs.dealing.channels_of.Goals.{After-insert}
use Rattle.split_board.proofs.dealing.channels_of.Goals as goal

-- a list of none
size_of_none : {X : Type 0} (xs : List X) → xs ≡ [] → length xs ≡ 0
size_of_none xs none = ap length none

abbrev Channel : Over → Type 0
Channel g = LockedChannel g.row.K.Denot g.row.B.Denot g.K.ChannelPort g.B.PartsName

-- the ports of these channels
abbrev ports_of : (g : Over) → List (Channel g) → List g.row.K.Denot
ports_of g channels = ports_in g.K.ChannelPort (map (λ (channel : Channel g). channel.part) channels)

module _ (g : Over) (c : After-insert g) where
  below : c.loop-dealt.dealt < 8
  below = c.loop-dealt-test.true

  first : c.insert.new.self.items ≡ c.channel_of-channel.result ∷ c.loop-dealt.channels.items
  first =
      let room = c.loop-dealt.invariant.room in let made = c.loop-dealt.invariant.made in let less = below in
      put_in c.insert.result c.loop-dealt.channels.items c.insert.new.self.items 0 c.channel_of-channel.result c.insert.ensures.items (c.insert.ensures.succeeds (omega (arith, room, made, less)))

  left : 7 - c.loop-dealt.dealt ≡ 8 - (c.loop-dealt.dealt + 1)
  left = let less = below in omega (arith, less)

  more : 8 - c.loop-dealt.dealt ≡ 8 - (c.loop-dealt.dealt + 1) + 1
  more = let less = below in omega (arith, less)

pub channel_of-channel-requires-clause-count : goal.channel_of-channel-requires-clause-count
channel_of-channel-requires-clause-count g c =
    let less = c.loop-dealt-test.true in
    let same : 8 - c.loop-dealt.dealt ≡ 7 - c.loop-dealt.dealt + 1 = omega (arith, less) in
    c.loop-dealt.invariant.count ∙ ap (λ (n : ℕ). min n g.B.PartsName.ports) same

pub channel_of-channel-requires-clause-seats : goal.channel_of-channel-requires-clause-seats
channel_of-channel-requires-clause-seats g c =
    let less = c.loop-dealt-test.true in
    let same : 8 - c.loop-dealt.dealt ≡ 7 - c.loop-dealt.dealt + 1 = omega (arith, less) in
    c.loop-dealt.invariant.seats ∙ same

pub loop-dealt-preserved : goal.loop-dealt-preserved
loop-dealt-preserved g c =
    let at = goal.at.loop-dealt-preserved g c in
    let it = at.After-insert in
    let dealt = c.channel_of-channel in
    let was = c.loop-dealt.invariant in
    let channels = c.loop-dealt.channels.items in
    let numbered : AreNumbered g.K.ChannelPort g.B.PartsName (8 - (c.loop-dealt.dealt + 1)) (dealt.result ∷ channels) =
    one_before g.K.ChannelPort g.B.PartsName (8 - (c.loop-dealt.dealt + 1)) dealt.result channels (dealt.ensures.number ∙ left g it)
    (subst (λ (n : ℕ). AreNumbered g.K.ChannelPort g.B.PartsName n channels) (more g it) was.numbered) in
    let size = ap (λ (cs : List (Channel g)). length cs) (first g it) in
    let made = was.made in
    let room = was.room in
    let capacity = c.insert.ensures.capacity in
    record {
      count = dealt.ensures.count ∙ ap (λ (n : ℕ). min n g.B.PartsName.ports) (left g it);
      seats = dealt.ensures.seats ∙ left g it;
      first = dealt.ensures.first;
      have = was.have ∙ ap (λ (ports : List g.row.K.Denot). ports ++ ports_of g channels) dealt.ensures.port
          ∙ append_assoc dealt.new.ports.items (port_in g.K.ChannelPort dealt.result.part) (ports_of g channels)
          ∙ ap (λ (cs : List (Channel g)). dealt.new.ports.items ++ ports_of g cs) (sym (first g it));
      numbered = subst (λ (cs : List (Channel g)). AreNumbered g.K.ChannelPort g.B.PartsName (8 - (c.loop-dealt.dealt + 1)) cs) (sym (first g it)) numbered;
      made = omega (arith, size, made);
      room = omega (arith, room, capacity);
    }

pub loop-dealt-init : goal.loop-dealt-init
loop-dealt-init g c =
    let few = c.requires.few in
    let count = c.requires.count in
    let all : g.B.PartsName.ports ≡ min 8 g.B.PartsName.ports = omega (arith, few) in
    record {
      count = count ∙ all;
      seats = c.requires.seats;
      first = c.requires.first;
      have = sym (append-nil c.args.ports.now.items) ∙ ap (λ (cs : List (Channel g)). c.args.ports.now.items ++ ports_of g cs) (sym c.requires.none);
      numbered = subst (λ (cs : List (Channel g)). AreNumbered g.K.ChannelPort g.B.PartsName 8 cs) (sym c.requires.none) (none_numbered g.K.ChannelPort g.B.PartsName 8);
      made = size_of_none c.args.room.items c.requires.none;
      room = c.requires.spacious;
    }

pub returns-clause-none : goal.returns-clause-none
returns-clause-none g c =
    let count = c.loop-dealt.invariant.count in
    let past = c.loop-dealt-test.false in
    emptied c.loop-dealt.ports.items (omega (arith, count, past))

pub returns-clause-ports : goal.returns-clause-ports
returns-clause-ports g c =
    let count = c.loop-dealt.invariant.count in
    let past = c.loop-dealt-test.false in
    c.loop-dealt.invariant.have ∙ ap (λ (ports : List g.row.K.Denot). ports ++ ports_of g c.loop-dealt.channels.items) (emptied c.loop-dealt.ports.items (omega (arith, count, past)))

pub invariant_of-result : goal.invariant_of-result
invariant_of-result g c =
    let past = c.loop-dealt-test.false in
    let within = c.loop-dealt.auto.dealt-end in
    let made = c.loop-dealt.invariant.made in
    let end : 8 - c.loop-dealt.dealt ≡ 0 = omega (arith, past) in
    record {
      numbered = subst (λ (n : ℕ). AreNumbered g.K.ChannelPort g.B.PartsName n c.loop-dealt.channels.items) end c.loop-dealt.invariant.numbered;
      eight = omega (arith, made, past, within);
      spacious = c.loop-dealt.invariant.room;
    }
