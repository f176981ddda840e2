use Rattle.std.proofs.Common.{refl}
use Rattle.sector_device.proofs.model.ModelSectorFileSectorFile.put.Goals as goal

pub write-requires : goal.write-requires
write-requires c = c.requires _ refl
