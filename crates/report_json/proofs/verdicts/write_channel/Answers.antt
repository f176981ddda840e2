use Rattle.std.proofs.Common.{ℕ, List}
use Rattle.report_json.specs.Checked.{TellsTally}
use Rattle.trace_statistics.proofs.Writing.{wrote_more, wrote_nothing}
use Rattle.report_json.proofs.Channels.{tally_told}
use Rattle.report_json.proofs.verdicts.write_channel.Goals as goal

pub loop-tally-init : goal.loop-tally-init
loop-tally-init g c = wrote_nothing (TellsTally c.args.is_json c.args.channel c.args.tallies.now) (g.W.Write.contents c.args.writer.now)

pub loop-tally-preserved : goal.loop-tally-preserved
loop-tally-preserved g c =
    let contents = g.W.Write.contents in
    let j = c.args.is_json in let channel = c.args.channel in let tallies = c.args.tallies.now in
    let index = c.loop-tally.tally-index in let why : List ℕ = c.deref.result.now in
    wrote_more (TellsTally j channel tallies) index (contents c.args.writer.now) (contents c.loop-tally.writer) (contents c.write_tally.new.writer) _
    (tally_told j channel tallies index _ why c.loop-tally-test.true) c.in_ok-write_tally.ensures c.loop-tally.invariant
