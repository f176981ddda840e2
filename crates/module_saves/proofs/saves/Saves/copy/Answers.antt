use Rattle.module_saves.proofs.Common.{refl}
use Rattle.module_saves.proofs.SameSaves.{same_saves}
use Rattle.module_saves.proofs.saves.Saves.copy.Goals as goal

pub returns : goal.returns
returns c = same_saves c.args.self.now _ refl refl refl c.copy_of_save-saving.ensures
