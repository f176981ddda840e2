use Rattle.drain_core.proofs.Whole.{drain_clocks-le, drain_ends, drain_spent-le, drains}
use Rattle.drain_core.proofs.laws.whole_drain.Goals as goal

pub returns-clause-lawful : goal.returns-clause-lawful
returns-clause-lawful c = drains

pub returns-clause-clocks : goal.returns-clause-clocks
returns-clause-clocks c = drain_clocks-le

pub returns-clause-ends : goal.returns-clause-ends
returns-clause-ends c = drain_ends

pub returns-clause-cost : goal.returns-clause-cost
returns-clause-cost c = drain_spent-le
