use Rattle.std.specs.Prelude.{List, ℕ}
use Rattle.std.specs.Io.KnownBytes.{Appends}
use Rattle.statistics_report.specs.Telling.{AreObjectsOf}
use Rattle.trace_statistics.specs.Telling.{IsMeasured, TellsBelow, TellsChannel}
use Rattle.statistics_report.proofs.telling.write_statistics.Given as goal

abbrev pub invariant-loop-channel : goal.invariant-loop-channel
invariant-loop-channel g l = IsMeasured l.rules l.measured
    → (text : List ℕ) × TellsBelow (TellsChannel (AreObjectsOf l.rules) l.rules l.measured.check.given.items) l.channel text
    × Appends (g.W.Write.contents l.initial.writer) (g.W.Write.contents l.writer) text
