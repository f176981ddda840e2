use Rattle.std.proofs.Common.{◌≡◌, ◌-◌, ◌++◌, length, map}
use Rattle.channel_locks.specs.Numbers.{AreNumbered}
use Rattle.channel_locks.specs.Unlocked.{ports_in}
use Rattle.board_desk.specs.Loans.{HaveLent}
use Rattle.board_desk.specs.Views.{SameModule}
use Rattle.board_desk.proofs.desk.Desk.take_channels.Given as goal

-- the channels below a number have lent their ports for good, and the others are still to come
abbrev pub invariant-loop-number : goal.invariant-loop-number
invariant-loop-number g l =
    record {
      count : length l.channels.items ≡ 8 - l.number;
      numbered : AreNumbered g.K.ChannelPort g.B.PartsName l.number l.channels.items;
      have : ∥ HaveLent g.K.ChannelPort g.B.PartsName l.self.known.logs l.number l.self.room.items ∥₁;
      ports : l.self.room.items ++ ports_in g.K.ChannelPort (map (λ channel. channel.part) l.channels.items) ≡ ports_in g.K.ChannelPort (map (λ channel. channel.part) l.fn.channels.channels.items);
      same : SameModule g.K.ChannelPort g.D.SaveDevice g.E.Energy g.B.BoardName g.B.PartsName l.fn.self l.self;
    }
