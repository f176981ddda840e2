-- A save that nothing disturbs leaves the old image or the new one.
use Rattle.nv_machine.proofs.SavedImages.{left_between, left_instead, left_within_next}
use Rattle.nv_machine.proofs.saves.saves_leave_old_or_new.Goals as goal

pub returns-clause-between : goal.returns-clause-between
returns-clause-between c = left_between

pub returns-clause-within : goal.returns-clause-within
returns-clause-within c = λ setup events replies old mid new next told guarded clean run calm happens quiet. left_within_next setup events replies old mid guarded clean run calm new next told happens quiet

pub returns-clause-instead : goal.returns-clause-instead
returns-clause-instead c = left_instead
