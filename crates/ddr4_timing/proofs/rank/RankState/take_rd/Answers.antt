use Rattle.ddr4_timing.proofs.RankSteps.{takes}
use Rattle.ddr4_timing.proofs.rank.RankState.take_rd.Goals as goal

pub returns : goal.returns
returns c = record { rows = search takes; cells = search takes; history = record { windows = search takes; refreshes = search takes; asleep = search takes } }
