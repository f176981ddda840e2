use Rattle.std.proofs.Common.{rules}
use Rattle.ddr4_timing.proofs.Lawfulness.{refresh_lawful}
use Rattle.ddr4_timing.proofs.RankSteps.{each_rank}
use Rattle.ddr4_timing.proofs.timing_state.TimingState.issue.Goals as goal

pub returns-clause-kept : goal.returns-clause-kept
returns-clause-kept c list s early =
    each_rank c.args.t.now c.args.g.now c.requires.few list c.args.clock c.args.cmd.now c.args.self.now c.share.new.self c.take.new.self _ c.rank-rank.result (search rules) (search rules) c.rank-rank.ensures
    early c.take.ensures c.share.ensures s

pub returns-clause-after : goal.returns-clause-after
returns-clause-after c list s lawful = record {
  lawful = lawful;
  ranks = each_rank c.args.t.now c.args.g.now c.requires.few list c.args.clock c.args.cmd.now c.args.self.now c.share.new.self c.take.new.self _ c.rank-rank.result (search rules) (search rules) c.rank-rank.ensures
      (refresh_lawful c.args.t.now c.args.g.now list (record { clock = c.args.clock; cmd = c.args.cmd.now }) lawful).not_early c.take.ensures c.share.ensures s.ranks;
}
