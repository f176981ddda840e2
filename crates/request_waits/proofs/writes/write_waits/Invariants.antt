use Rattle.std.proofs.Common.{◌≡◌, ◌++◌, drop, map}
use Rattle.request_waits.specs.Writes.{waits_from, write_waits_of}
use Rattle.request_waits.proofs.writes.write_waits.Given as goal

abbrev pub invariant-loop-channel : goal.invariant-loop-channel
invariant-loop-channel l =
    write_waits_of (map (λ commands. commands.items) l.channels) l.writes
    ≡ l.waits.items ++ waits_from l.channel (map (λ commands. commands.items) (drop l.channel l.channels)) l.writes
