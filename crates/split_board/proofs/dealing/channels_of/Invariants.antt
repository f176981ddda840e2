use Rattle.std.proofs.Common.{◌≡◌, ◌-◌, ◌≤◌, ◌++◌, length, map, min}
use Rattle.std.specs.Prelude.{vec_capacity}
use Rattle.channel_locks.specs.Numbers.{AreNumbered}
use Rattle.channel_locks.specs.Unlocked.{ports_in}
use Rattle.split_board.specs.FirstLogs.{AreFirstSlots}
use Rattle.split_board.proofs.dealing.channels_of.Given as goal

-- the channels from a number on have their seats and their ports, and those below are still to come
abbrev pub invariant-loop-dealt : goal.invariant-loop-dealt
invariant-loop-dealt g l =
    record {
      count : length l.ports.items ≡ min (8 - l.dealt) g.B.PartsName.ports;
      seats : length l.seats.items ≡ 8 - l.dealt;
      first : AreFirstSlots g.K.ChannelPort g.B.PartsName l.fn.ended l.ports.items l.seats.items;
      have : l.fn.ports.items ≡ l.ports.items ++ ports_in g.K.ChannelPort (map (λ channel. channel.part) l.channels.items);
      numbered : AreNumbered g.K.ChannelPort g.B.PartsName (8 - l.dealt) l.channels.items;
      made : length l.channels.items ≡ l.dealt;
      room : 8 ≤ vec_capacity l.channels;
    }
