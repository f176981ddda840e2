use Rattle.std.proofs.Common.{rules}
use Rattle.auto_precharge.specs.Unfolding.{plain_commands}
use Rattle.trace_statistics.proofs.Channels.{rank_small}
use Rattle.trace_statistics.proofs.RankTables.{margins_more, margins_of_rank, plain_more}
use Rattle.trace_statistics.proofs.margins.ChannelMargins.take.Goals as goal

pub returns : goal.returns
returns c list s =
    let t = c.args.rules.now.timing in
    let small = rank_small c.args.rules.now.geometry c.args.next.now.command.cmd c.args.rules.now.few_banks c.requires.place in
    let before = margins_of_rank t c.args.self.now.ranks (plain_commands list) c.args.next.now.command c.rank-rank.result _ c.rank-rank.ensures small s in
    rw (plain_more list c.args.next.now)
    (margins_more t c.args.self.now.ranks (plain_commands list) c.args.next.now.command c.rank-rank.result _ (search rules) c.rank-rank.ensures small
    (c.take.ensures (plain_commands list) before) s)
