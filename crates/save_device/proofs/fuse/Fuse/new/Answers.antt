use Rattle.std.proofs.Common.{refl}
use Rattle.save_device.proofs.fuse.Fuse.new.Goals as goal

pub returns-clause-left : goal.returns-clause-left
returns-clause-left g c = refl
