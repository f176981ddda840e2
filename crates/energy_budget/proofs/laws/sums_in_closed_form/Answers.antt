use Rattle.std.proofs.Common.{refl}
use Rattle.energy_budget.proofs.Rising.{reserve-next, steps-next, floor_level-next, needed_level-next}
use Rattle.energy_budget.proofs.Totals.{reserve-closed, steps-closed}
use Rattle.energy_budget.specs.Sums.{backing_level, floor_level, needed_level}
use Rattle.energy_budget.proofs.laws.sums_in_closed_form.Goals as goal

pub returns-clause-reserve : goal.returns-clause-reserve
returns-clause-reserve c = reserve-closed

pub returns-clause-steps : goal.returns-clause-steps
returns-clause-steps c = steps-closed

pub returns-clause-floor : goal.returns-clause-floor
unfolding floor_level backing_level
returns-clause-floor c costs k = refl

pub returns-clause-need : goal.returns-clause-need
unfolding needed_level
returns-clause-need c costs k = refl

pub returns-clause-next_reserve : goal.returns-clause-next_reserve
returns-clause-next_reserve c = reserve-next

pub returns-clause-next_steps : goal.returns-clause-next_steps
returns-clause-next_steps c = steps-next

pub returns-clause-next_floor : goal.returns-clause-next_floor
returns-clause-next_floor c = floor_level-next

pub returns-clause-next_need : goal.returns-clause-next_need
returns-clause-next_need c = needed_level-next
