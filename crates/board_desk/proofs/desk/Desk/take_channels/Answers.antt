-- All channels are settled for good, and lend their ports.
use Rattle.std.proofs.Common.{ap, arith, length, map, refl, subst, sym, ◌++◌, ◌∙◌, ◌≡◌}
use Rattle.std.proofs.lemmas.List.{append-nil}
use Rattle.channel_locks.specs.Unlocked.{ports_in}
use Rattle.board_desk.specs.Loans.{HaveLent}
use Rattle.board_desk.proofs.Lent.{have_none_yet}
use Rattle.board_desk.proofs.Taken.{no_ports}
use Rattle.board_desk.proofs.Wholly.{module_join}
use Rattle.board_desk.proofs.desk.Desk.take_channels.Goals as goal

pub loop-number-init : goal.loop-number-init
loop-number-init g c =
    let none = c.requires in
    record {
      count = (let eight = c.args.channels.eight in omega (arith, eight));
      numbered = c.args.channels.numbered;
      have = have_none_yet g.K.ChannelPort g.B.PartsName c.args.self.now.known.logs c.args.self.now.room.items none;
      ports = ap (λ ports. ports ++ ports_in g.K.ChannelPort (map (λ channel. channel.part) c.args.channels.channels.items)) none;
      same = record { front = refl; costs = refl; terms = refl; device = refl; energy = refl; history = refl };
    }

pub take_channel-requires-clause-some : goal.take_channel-requires-clause-some
take_channel-requires-clause-some g c =
    let count = c.loop-number.invariant.count in
    let below = c.loop-number-test.true in
    omega (arith, count, below)

pub loop-number-preserved : goal.loop-number-preserved
loop-number-preserved g c =
    let was = c.loop-number.invariant in
    let took = c.take_channel.ensures in
    let count = was.count in
    let less = took.count in
    record {
      count = omega (arith, count, less);
      numbered = took.numbered;
      have = took.have;
      ports = took.ports ∙ was.ports;
      same = module_join g.K.ChannelPort g.D.SaveDevice g.E.Energy g.B.BoardName g.B.PartsName c.args.self.now c.loop-number.self c.take_channel.new.self was.same took.same;
    }

pub returns-clause-have : goal.returns-clause-have
returns-clause-have g c =
    let desk = c.loop-number.self in
    let end = c.loop-number-test.false in
    let within = c.loop-number.auto.number-end in
    let past : c.loop-number.number ≡ 8 = omega (arith, end, within) in
    subst (λ n. ∥ HaveLent g.K.ChannelPort g.B.PartsName desk.known.logs n desk.room.items ∥₁) past c.loop-number.invariant.have

pub returns-clause-ports : goal.returns-clause-ports
returns-clause-ports g c =
    let room = c.loop-number.self.room.items in
    let count = c.loop-number.invariant.count in
    let end = c.loop-number-test.false in
    let left : length c.loop-number.channels.items ≡ 0 = omega (arith, count, end) in
    sym (append-nil room) ∙ ap (λ ports. room ++ ports) (sym (no_ports g.K.ChannelPort g.B.PartsName c.loop-number.channels.items left)) ∙ c.loop-number.invariant.ports
