use Rattle.std.specs.Prelude.{List, ℕ}
use Rattle.std.specs.Io.KnownBytes.{Appends}
use Rattle.trace_statistics.specs.Telling.{TellsBelow}
use Rattle.report_json.specs.Checked.{TellsTally}
use Rattle.report_json.proofs.verdicts.write_channel.Given as goal

abbrev pub invariant-loop-tally : goal.invariant-loop-tally
invariant-loop-tally g l = (text : List ℕ) × TellsBelow (TellsTally l.is_json l.channel l.tallies) l.tally-index text
    × Appends (g.W.Write.contents l.initial.writer) (g.W.Write.contents l.writer) text
