use Rattle.auto_precharge.specs.Unfolding.{plain_commands}
use Rattle.command_trace.specs.Channels.{issued_to}
use Rattle.trace_statistics.proofs.statistics.TraceStatistics.margins.Goals as goal

pub returns : goal.returns
returns c =
    c.rank.ensures c.args.self.now.rules.timing (plain_commands (issued_to c.args.channel c.args.self.now.given.items))
    (c.args.self.now.kept c.args.channel _ c.requires.channel)
