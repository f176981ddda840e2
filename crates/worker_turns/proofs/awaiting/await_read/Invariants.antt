use Rattle.std.specs.Prelude.{ℕ}
use Rattle.worker_turns.specs.Lookouts.{LooksTimes}
use Rattle.worker_turns.proofs.awaiting.await_read.Given as goal

abbrev pub invariant-loop : goal.invariant-loop
invariant-loop g l = (times : ℕ) × LooksTimes g.L.Lookout times l.fn.ticket l.fn.lookout l.lookout
