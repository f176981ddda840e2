use Rattle.std.proofs.Common.{refl, subst}
use Rattle.auto_precharge.specs.Unfolding.{plain_commands}
use Rattle.command_trace.specs.Channels.{issued_to}
use Rattle.ddr4_timing.specs.declared.timing.CommandRules.{CommandRules}
use Rattle.trace_statistics.specs.Margins.{AreMarginsOf}
use Rattle.trace_statistics.specs.Telling.{TellsRank}
use Rattle.statistics_report.specs.Telling.{told_rank}
use Rattle.trace_statistics.proofs.Writing.{wrote_more, wrote_nothing}
use Rattle.statistics_report.proofs.telling.write_ranks.Goals as goal

pub loop-rank-init : goal.loop-rank-init
loop-rank-init g c = λ rules.
    wrote_nothing (TellsRank (told_rank c.args.channel) c.args.rules.now (issued_to c.args.channel c.args.statistics.now.given.items)) (g.W.Write.contents c.args.writer.now)

pub loop-rank-preserved : goal.loop-rank-preserved
loop-rank-preserved g c = λ rules.
    let contents = g.W.Write.contents in
    let list = issued_to c.args.channel c.args.statistics.now.given.items in
    wrote_more (TellsRank (told_rank c.args.channel) c.args.rules.now list) c.loop-rank.rank (contents c.args.writer.now) (contents c.loop-rank.writer) (contents c.write_rank.new.writer)
    (told_rank c.args.channel c.loop-rank.rank c.margins-margins.result)
    (c.margins-margins.result, subst (λ (r : CommandRules). AreMarginsOf r.timing c.loop-rank.rank (plain_commands list) c.margins-margins.result) rules c.margins-margins.ensures, refl)
    c.in_ok-write_rank.ensures (c.loop-rank.invariant rules)
