-- What contracts see of a gauge, and what its calls may do to it.
use Rattle.std.specs.Prelude.{◌≡◌, ◌<◌, ◌≤◌, ◌+◌, ◌↔◌, ℕ, List, [], ◌∷◌, ◌++◌, Result, IsErr}
use Rattle.energy_budget.specs.declared.energy.Dark.{Dark}
use Rattle.energy_budget.specs.declared.energy.GaugeCall.{GaugeCall}
use Rattle.energy_budget.specs.declared.energy.GaugeCall.TheVariants.{Pay}

pub record Gauge : Type 0 where
  -- the energy that it has
  pub level : ℕ
  -- its own leak: the most that a reading takes from the level
  pub leak : ℕ
  -- how often it broke its rules
  pub faults : ℕ
  -- the calls that it had, the oldest first
  pub calls : List GaugeCall

-- the rules of a reading, on mains: the level falls by at most the leak, and the answer is the level after that
pub record KeepsReading (old : Gauge) (answer : ℕ) (new : Gauge) : Type 0 where
  pub falls : old.level ≤ new.level + old.leak
  pub told : answer ≡ new.level

-- A reading by a call of this kind: a fault is counted exactly where it breaks the rules.
pub record ReadsLevel (kind : GaugeCall) (old : Gauge) (answer : ℕ) (new : Gauge) : Type 0 where
  pub breach : new.faults ≡ old.faults ↔ KeepsReading old answer new
  pub counted : old.faults ≤ new.faults
  pub same_leak : new.leak ≡ old.leak
  pub called : new.calls ≡ old.calls ++ kind ∷ []

-- the rules of a payment, on backup: the level falls by at most the cost, which is refused only where the level is under it
pub record KeepsPayment (old : Gauge) (cost : ℕ) (result : Result (Unit {0}) Dark) (new : Gauge) : Type 0 where
  pub falls : old.level ≤ new.level + cost
  pub refused : IsErr result → old.level < cost

-- a payment: a fault is counted exactly where it breaks the rules
pub record PaysCost (old : Gauge) (cost : ℕ) (result : Result (Unit {0}) Dark) (new : Gauge) : Type 0 where
  pub breach : new.faults ≡ old.faults ↔ KeepsPayment old cost result new
  pub counted : old.faults ≤ new.faults
  pub same_leak : new.leak ≡ old.leak
  pub called : new.calls ≡ old.calls ++ Pay ∷ []

-- no fault that was counted is forgotten
abbrev pub KeepsFaults : Gauge → Gauge → Type 0
KeepsFaults old new = old.faults ≤ new.faults

-- Through a call, or through several of them, the gauge is honest: it counts no fault, and its own leak isn't above the one that
-- costs are reckoned with.
pub record IsHonestThrough (leak : ℕ) (old new : Gauge) : Type 0 where
  pub bounded : old.leak ≤ leak
  pub faultless : new.faults ≡ old.faults
