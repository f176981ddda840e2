use Rattle.std.specs.Prelude.{◌≡◌}
use Rattle.tests_workers.proofs.ahead.noted_ports.Given as goal

abbrev pub invariant-loop-port : goal.invariant-loop-port
invariant-loop-port g l = l.noted.items ≡ l.yielded
