use Rattle.std.proofs.Common.{All, take}
use Rattle.drain_core.specs.AtOnce.{CanDrainAt}
use Rattle.bench_timing.proofs.side_by_side.can_all_drain.Given as goal

abbrev pub invariant-loop-channel : goal.invariant-loop-channel
invariant-loop-channel l = All (CanDrainAt l.costs) (take l.channel-index l.channels)
