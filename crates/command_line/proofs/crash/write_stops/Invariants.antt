use Rattle.std.specs.Prelude.{List, ℕ}
use Rattle.std.specs.Io.KnownBytes.{Appends}
use Rattle.command_line.proofs.crash.write_stops.Given as goal

abbrev pub invariant-loop-at_stop : goal.invariant-loop-at_stop
invariant-loop-at_stop g l = (stops : List ℕ) × Appends (g.W.Write.contents l.initial.writer) (g.W.Write.contents l.writer) stops
