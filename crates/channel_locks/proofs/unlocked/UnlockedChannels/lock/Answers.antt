-- Each channel goes behind a lock.
use Rattle.std.proofs.Common.{arith}
use Rattle.channel_locks.proofs.Ordered.{emptied}
use Rattle.channel_locks.proofs.unlocked.UnlockedChannels.lock.Goals as goal

pub invariant_of-room : goal.invariant_of-room
invariant_of-room g c =
    let at = c.loop-locked.invariant in let past = c.loop-locked-test.false in let left = at.left in
    record {
      empty = emptied c.loop-locked.channels.items (omega (arith, left, past));
      spacious = at.room;
    }
