use Rattle.std.proofs.Common.{◌≡◌, drop, filter_map}
use Rattle.chan_core.specs.State.{placed_write}
use Rattle.chan_core.proofs.channel_memory.oldest_write.Given as goal

abbrev pub invariant-loop-p : goal.invariant-loop-p
invariant-loop-p l = filter_map placed_write l.requests ≡ filter_map placed_write (drop l.p-index l.requests)
