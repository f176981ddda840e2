use Rattle.slot_store.proofs.Common.{refl}
use Rattle.slot_store.proofs.saving.SaveRun.begin.Goals as goal

pub returns-clause-count : goal.returns-clause-count
returns-clause-count c = refl
