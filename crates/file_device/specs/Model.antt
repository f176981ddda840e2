-- What a file in memory keeps.
use Rattle.std.specs.Prelude.{false, slice_index_or}
use Rattle.file_device.specs.declared.model.ModelFile.{ModelFile}
use Rattle.file_device.specs.Kept.{Kept}

abbrev pub kept_of : ModelFile → Kept
kept_of file = record {
  bytes = file.bytes.items;
  unsettled = λ place. slice_index_or file.unsettled.flags.items place false;
  stale = λ place. slice_index_or file.stale.flags.items place false;
}
