use Rattle.std.proofs.Common.{rules}
use Rattle.ddr4_timing.proofs.timing.Timing.close.Goals as goal

pub returns-clause-value : goal.returns-clause-value
returns-clause-value c = search rules
