use Rattle.std.proofs.Common.{◌≡◌, ◌++◌, drop, take}
use Rattle.request_waits.specs.Writes.{waits_behind, channel_waits_of}
use Rattle.request_waits.proofs.writes.channel_waits.Given as goal

abbrev pub invariant-loop-index : goal.invariant-loop-index
invariant-loop-index l = channel_waits_of l.commands l.writes ≡ l.waits.items ++ waits_behind l.commands (take l.index l.writes) (drop l.index l.writes)
