use Rattle.std.specs.Prelude.{List, ℕ}
use Rattle.std.specs.Io.KnownBytes.{Appends}
use Rattle.command_trace.specs.Channels.{FollowsAll}
use Rattle.command_trace.specs.Sources.{bytes_of}
use Rattle.trace_statistics.specs.Telling.{TellsBelow}
use Rattle.report_json.specs.Checked.{TellsChannel, TellsTallies}
use Rattle.report_json.proofs.verdicts.write_tallies.Given as goal

abbrev pub invariant-loop-channel : goal.invariant-loop-channel
invariant-loop-channel g l = FollowsAll l.rules l.check
    → (text : List ℕ) × TellsBelow (TellsChannel (TellsTallies l.rules l.form (bytes_of l.source) l.is_json) l.rules l.check l.is_json) l.channel text
    × Appends (g.W.Write.contents l.initial.writer) (g.W.Write.contents l.writer) text
