use Rattle.std.specs.Prelude.{List, ℕ}
use Rattle.std.specs.Io.KnownBytes.{Appends}
use Rattle.run_command.specs.Lives.{TellsLifeAt}
use Rattle.trace_statistics.specs.Telling.{TellsBelow}
use Rattle.run_command.proofs.statistics.write_statistics.Given as goal

abbrev pub invariant-loop-index : goal.invariant-loop-index
invariant-loop-index g l = (text : List ℕ) × TellsBelow (TellsLifeAt l.rules l.is_json l.lives l.waits) l.index text
    × Appends (g.W.Write.contents l.initial.writer) (g.W.Write.contents l.writer) text
