use Rattle.slot_store.proofs.Common.{ap, steps_left, sym}
use Rattle.slot_store.proofs.saving.SaveRun.steps_left.Goals as goal

pub returns-in-SyncOpen : goal.returns-in-SyncOpen
returns-in-SyncOpen c = ap (steps_left c.args.self.now.plan.lines) (sym c.in-SyncOpen.is)
