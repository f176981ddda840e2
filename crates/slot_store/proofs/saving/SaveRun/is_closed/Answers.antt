use Rattle.slot_store.proofs.Common.{Step, ap, closed_before, sym}
use Rattle.slot_store.proofs.saving.SaveRun.is_closed.Goals as goal

pub returns-in-Open : goal.returns-in-Open
returns-in-Open c = let run = c.args.self.now in ap (λ (step : Step). closed_before run.plan step run.tried) (sym c.in-Open.is)
