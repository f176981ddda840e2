use Rattle.std.proofs.Common.{◌≡◌, ℕ, ◌+◌, ◌<◌, ◌≤◌}
use Rattle.save_device.specs.Flags.{IsUp}
use Rattle.file_device.proofs.places.Places.run_at.Given as goal

abbrev pub invariant-loop-flag : goal.invariant-loop-flag
invariant-loop-flag l = record {
  counted : l.n ≡ l.flag-index;
  most : l.n ≤ l.most;
  all : (place : ℕ) → l.at ≤ place → place < l.at + l.n → IsUp l.self.flags.items place;
}
