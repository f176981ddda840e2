use Rattle.std.proofs.Common.{refl}
use Rattle.file_device.proofs.model.ModelFileDiskFile.put.Goals as goal

pub write_half-requires : goal.write_half-requires
write_half-requires c = c.requires _ refl

pub write-requires : goal.write-requires
write-requires c = c.requires _ refl
