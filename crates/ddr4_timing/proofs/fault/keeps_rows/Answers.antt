use Rattle.std.proofs.Common.{rules}
use Rattle.ddr4_timing.proofs.fault.keeps_rows.Goals as goal

pub returns-then-not-is_asleep : goal.returns-then-not-is_asleep
returns-then-not-is_asleep c = search rules

pub returns-else-not-is_asleep : goal.returns-else-not-is_asleep
returns-else-not-is_asleep c = search rules
