use Rattle.std.proofs.Common.{All, take}
use Rattle.drain_core.specs.AtOnce.{CanDrainAt}
use Rattle.tests_channel.proofs.tests.at_once.can_all_drain.Given as goal

abbrev pub invariant-loop-channel : goal.invariant-loop-channel
invariant-loop-channel l = All (CanDrainAt l.costs) (take l.channel-index l.channels)
