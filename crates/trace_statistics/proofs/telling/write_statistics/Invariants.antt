use Rattle.std.specs.Prelude.{List, ℕ}
use Rattle.std.specs.Io.KnownBytes.{Appends}
use Rattle.trace_statistics.specs.Telling.{AreLinesOf, IsMeasured, TellsBelow, TellsChannel}
use Rattle.trace_statistics.proofs.telling.write_statistics.Given as goal

abbrev pub invariant-loop-channel : goal.invariant-loop-channel
invariant-loop-channel g l = IsMeasured l.rules l.measured
    → (text : List ℕ) × TellsBelow (TellsChannel (AreLinesOf l.rules) l.rules l.measured.check.given.items) l.channel text
    × Appends (g.W.Write.contents l.initial.writer) (g.W.Write.contents l.writer) text
