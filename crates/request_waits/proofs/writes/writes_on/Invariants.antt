use Rattle.std.proofs.Common.{◌≡◌, take}
use Rattle.request_waits.specs.Writes.{writes_on}
use Rattle.request_waits.proofs.writes.writes_on.Given as goal

abbrev pub invariant-loop-write : goal.invariant-loop-write
invariant-loop-write l = l.on.items ≡ writes_on l.channel (take l.write-index l.writes)
