use Rattle.std.proofs.Common.{◌≡◌, ◌+◌, ◌≤◌}
use Rattle.std.specs.Prelude.{vec_capacity, vec_len}
use Rattle.channel_locks.proofs.unlocked.UnlockedChannels.lock.Given as goal

abbrev pub invariant-loop-locked : goal.invariant-loop-locked
invariant-loop-locked g l =
    record {
      left : vec_len l.channels + l._locked ≡ 8;
      made : vec_len l.locks ≡ l._locked;
      room : 8 ≤ vec_capacity l.channels;
      spacious : 8 ≤ vec_capacity l.locks;
    }
