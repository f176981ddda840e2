use Rattle.std.specs.Prelude.{◌≡◌, List, ℕ}
use Rattle.std.specs.Io.KnownBytes.{Appends}
use Rattle.command_trace.specs.Channels.{issued_to}
use Rattle.statistics_report.specs.Telling.{told_rank}
use Rattle.trace_statistics.specs.Telling.{TellsBelow, TellsRank}
use Rattle.statistics_report.proofs.telling.write_ranks.Given as goal

abbrev pub invariant-loop-rank : goal.invariant-loop-rank
invariant-loop-rank g l = l.statistics.rules ≡ l.rules
    → (text : List ℕ) × TellsBelow (TellsRank (told_rank l.channel) l.rules (issued_to l.channel l.statistics.given.items)) l.rank text
    × Appends (g.W.Write.contents l.initial.writer) (g.W.Write.contents l.writer) text
