use Rattle.std.proofs.Common.{◌≤◌}
use Rattle.bench_timing.proofs.maps.walk.Given as goal

abbrev pub invariant-loop-line : goal.invariant-loop-line
invariant-loop-line g l = l.found ≤ l.line
