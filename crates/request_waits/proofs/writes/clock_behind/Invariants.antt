use Rattle.std.proofs.Common.{◌≡◌, drop, slice_get}
use Rattle.request_waits.specs.Writes.{write_clocks, write_clocks_behind}
use Rattle.request_waits.proofs.writes.clock_behind.Given as goal

abbrev pub invariant-loop-command : goal.invariant-loop-command
invariant-loop-command l =
    slice_get (write_clocks l.place l.commands) l.others ≡ slice_get (write_clocks_behind l.place l.row (drop l.command-index l.commands)) l.left
