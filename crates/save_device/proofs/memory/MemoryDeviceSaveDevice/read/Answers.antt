use Rattle.std.proofs.Common.{refl}
use Rattle.save_device.proofs.memory.MemoryDeviceSaveDevice.read.Goals as goal

pub returns-clause-settled_row : goal.returns-clause-settled_row
returns-clause-settled_row c = refl
