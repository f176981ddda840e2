use Rattle.ddr4_timing.proofs.Common.{PreAll}
use Rattle.ddr4_timing.proofs.RankSteps.{banks_kept, groups_kept, kept, takes}
use Rattle.ddr4_timing.proofs.rank.RankState.take_pre_all.Goals as goal

pub returns : goal.returns
returns c = record { rows = search takes; cells = record { banks = banks_kept _ _ _; group_act = groups_kept _ (PreAll c.args.rank) _; group_rd = groups_kept _ (PreAll c.args.rank) _; group_wr = groups_kept _ (PreAll c.args.rank) _; act = search takes; pre_all = kept _ _; idle = search takes }; history = record { windows = search takes; refreshes = search takes; asleep = search takes } }
