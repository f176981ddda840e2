use Rattle.std.proofs.Common.{length, ◌+◌, ◌*◌}
use Rattle.drain_core.proofs.at_once.+drain_from+fn-drain_from-join_mut+arg2+fn-drain_from-join_mut+arg3.Given as goal

abbrev pub decreases-drain_from : goal.decreases-drain_from
decreases-drain_from g l = 2 * length l.channels.now

abbrev pub decreases-join_mut+arg2 : goal.decreases-join_mut+arg2
decreases-join_mut+arg2 g l = 2 * length l.left.now + 1

abbrev pub decreases-join_mut+arg3 : goal.decreases-join_mut+arg3
decreases-join_mut+arg3 g l = 2 * length l.right.now + 1
