-- What may become of a gauge between two of its calls.
use Rattle.std.specs.Prelude.{◌≡◌, ◌≤◌}
use Rattle.energy_budget.specs.Gauge.{Gauge, KeepsFaults}

-- Between two calls the gauge isn't asked, but may be charged: its level doesn't fall unless a fault is counted.
pub record RisesTo (old new : Gauge) : Type 0 where
  pub rises : new.faults ≡ old.faults → old.level ≤ new.level
  pub counted : KeepsFaults old new
  pub same_leak : new.leak ≡ old.leak
  pub unasked : new.calls ≡ old.calls
