use Rattle.module_core.proofs.Common.{refl}
use Rattle.module_core.proofs.SameFronts.{same_front}
use Rattle.module_core.proofs.front.Front.copy.Goals as goal

pub returns : goal.returns
returns c = same_front c.args.self.now _ refl refl refl refl refl refl c.copy-saves.ensures
