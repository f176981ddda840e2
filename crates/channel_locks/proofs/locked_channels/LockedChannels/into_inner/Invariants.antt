use Rattle.std.proofs.Common.{◌≡◌, ◌+◌, ◌≤◌}
use Rattle.std.specs.Prelude.{vec_capacity, vec_len}
use Rattle.channel_locks.specs.Numbers.{AreRising}
use Rattle.channel_locks.proofs.locked_channels.LockedChannels.into_inner.Given as goal

abbrev pub invariant-loop-unlocked : goal.invariant-loop-unlocked
invariant-loop-unlocked g l =
    record {
      left : vec_len l.locks + l._unlocked ≡ 8;
      count : vec_len l.channels ≡ l._unlocked;
      room : 8 ≤ vec_capacity l.channels;
      known : l.known ≡ l.fn.known;
      rise : AreRising g.K.ChannelPort g.B.PartsName 0 8 l.channels.items;
    }
