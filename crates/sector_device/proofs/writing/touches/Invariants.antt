use Rattle.std.proofs.Common.{ℕ, ◌<◌, ◌≤◌}
use Rattle.save_device.specs.Flags.{IsUp}
use Rattle.sector_device.proofs.writing.touches.Given as goal

abbrev pub invariant-loop-place : goal.invariant-loop-place
invariant-loop-place l = record {
  none : (k : ℕ) → l.at ≤ k → k < l.place → ¬ IsUp l.places.flags.items k;
}
