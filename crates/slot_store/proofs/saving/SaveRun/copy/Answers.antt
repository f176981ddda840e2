use Rattle.std.proofs.Common.{◌≡◌, refl, rules}
use Rattle.slot_store.proofs.SameRuns.{same_run}
use Rattle.slot_store.proofs.saving.SaveRun.copy.Goals as goal

pub returns : goal.returns
returns c = same_run c.args.self.now _ refl refl refl refl (search rules)
