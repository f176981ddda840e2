use Rattle.std.proofs.Common.{refl}
use Rattle.save_device.proofs.one_fault.OneFault.new.Goals as goal

pub returns-clause-before : goal.returns-clause-before
returns-clause-before g c = refl
