use Rattle.command_trace.specs.Sources.{bytes_of}
use Rattle.report_json.specs.Checked.{TellsChannel, TellsFault}
use Rattle.trace_statistics.proofs.Writing.{wrote_more, wrote_nothing}
use Rattle.report_json.proofs.Channels.{verdict_told}
use Rattle.report_json.proofs.verdicts.write_verdicts.Goals as goal

pub loop-channel-init : goal.loop-channel-init
loop-channel-init g c = λ follows.
    let r = c.args.rules.now in let check = c.args.check.now in let j = c.args.is_json in
    wrote_nothing (TellsChannel (TellsFault r c.args.form (bytes_of c.args.source.now) check j) r check j) (g.W.Write.contents c.args.writer.now)

pub loop-channel-preserved : goal.loop-channel-preserved
loop-channel-preserved g c = λ follows.
    let contents = g.W.Write.contents in
    let r = c.args.rules.now in let check = c.args.check.now in let j = c.args.is_json in
    let bytes = bytes_of c.args.source.now in
    let channel = c.loop-channel.channel in
    let mid = contents c.loop-channel.writer in let new = contents c.write_verdict.new.writer in
    let told = verdict_told r c.args.form bytes check j channel c.count-count.result c.in_ok-found.found mid new
    (c.in_ok-found.ensures.none follows) (c.in_ok-found.ensures.fault follows) (c.count-count.ensures r follows)
    c.in_ok-write_verdict.ensures.lawful c.in_ok-write_verdict.ensures.fault in
    wrote_more (TellsChannel (TellsFault r c.args.form bytes check j) r check j) channel (contents c.args.writer.now) mid new told.0 told.1 told.2
    (c.loop-channel.invariant follows)
