use Rattle.std.proofs.Common.{rules}
use Rattle.ddr4_timing.proofs.laws.checked_passes.Goals as goal

pub returns : goal.returns
returns c = search rules
