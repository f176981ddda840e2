-- Sets of places, as flags.
use Rattle.std.specs.Prelude.{◌≡◌, ◌⊎◌, ◌↔◌, ℕ, Bool, List, length}
use Rattle.save_device.specs.Flags.{IsUp}
use Rattle.save_device.specs.Rows.{IsInRange}

-- the n places from `at` on came in
pub record Adds (at n : ℕ) (old new : List Bool) : Type 0 where
  pub size : length new ≡ length old
  pub up : (place : ℕ) → IsUp new place ↔ (IsUp old place ⊎ IsInRange at n place)

-- the n places from `at` on went out
pub record Takes (at n : ℕ) (old new : List Bool) : Type 0 where
  pub size : length new ≡ length old
  pub up : (place : ℕ) → IsUp new place ↔ (IsUp old place × (¬ IsInRange at n place))
