use Rattle.energy_budget.proofs.Rising.{reserve-le, backing_level-le, backing_level-ticks, floor_level-le, needed_level-le, floor_backs, need_backs}
use Rattle.energy_budget.proofs.laws.sums_rise.Goals as goal

pub returns-clause-reserve : goal.returns-clause-reserve
returns-clause-reserve c = reserve-le

pub returns-clause-backing : goal.returns-clause-backing
returns-clause-backing c = backing_level-le

pub returns-clause-floor : goal.returns-clause-floor
returns-clause-floor c = floor_level-le

pub returns-clause-need : goal.returns-clause-need
returns-clause-need c = needed_level-le

pub returns-clause-ticks : goal.returns-clause-ticks
returns-clause-ticks c = backing_level-ticks

pub returns-clause-floor_backs : goal.returns-clause-floor_backs
returns-clause-floor_backs c = floor_backs

pub returns-clause-need_backs : goal.returns-clause-need_backs
returns-clause-need_backs c = need_backs
