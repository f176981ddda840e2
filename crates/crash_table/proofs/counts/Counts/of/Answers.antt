use Rattle.std.proofs.Common.{[]}
use Rattle.crash_table.proofs.counts.Counts.of.Goals as goal

pub returns : goal.returns
returns c = c.count_all.ensures [] c.new-counts.ensures
