use Rattle.std.proofs.Common.{rules}
use Rattle.ddr4_timing.proofs.place.BankAddress.number.Goals as goal

pub returns-clause-value : goal.returns-clause-value
returns-clause-value c = search rules
