use Rattle.std.proofs.Common.{◌≡◌, ℕ, length, slice_index}
use Rattle.save_device.specs.Flags.{IsUp}
use Rattle.file_device.proofs.model.spoil.Given as goal

abbrev pub invariant-loop-place : goal.invariant-loop-place
invariant-loop-place l = record {
  size : length l.bytes.items ≡ length l.initial.bytes.items;
  outside : (k : ℕ) → ¬ IsUp l.places.flags.items k → slice_index l.bytes.items k ≡ slice_index l.initial.bytes.items k;
}
