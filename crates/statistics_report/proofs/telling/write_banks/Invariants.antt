use Rattle.std.specs.Prelude.{List, ℕ}
use Rattle.std.specs.Io.KnownBytes.{Appends}
use Rattle.auto_precharge.specs.declared.issued.Issued.{Issued}
use Rattle.statistics_report.specs.Telling.{told_bank}
use Rattle.trace_statistics.specs.Standing.{ChannelStands}
use Rattle.trace_statistics.specs.Telling.{TellsBelow, TellsNumbered}
use Rattle.statistics_report.proofs.telling.write_banks.Given as goal

abbrev pub invariant-loop-number : goal.invariant-loop-number
invariant-loop-number g l = (list : List Issued) → ChannelStands l.of list
    → (text : List ℕ) × TellsBelow (TellsNumbered (told_bank l.channel) l.rules list) l.number text
    × Appends (g.W.Write.contents l.initial.writer) (g.W.Write.contents l.writer) text
