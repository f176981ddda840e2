-- What the banks of a channel allow lies in the geometry.
use Rattle.std.proofs.Common.{ℕ, List}
use Rattle.std.proofs.Math.Logic.{∥∥₁_elim}
use Rattle.std.proofs.Props.{props}
use Rattle.bank_core.proofs.Common.{Act, AllowsIn, AreInLimits, Command, Geometry, IsInGeometry, Stamped, StandsFor, Timing, TimingState}
use Rattle.ddr4_timing.proofs.Lawfulness.{ready_lawful}

in_geometry_prop : (g : Geometry) (x : Command) → IsProp (IsInGeometry g x)
in_geometry_prop g (Act at row) = hlevel props
in_geometry_prop g x = hlevel props

pub allowed_place : (t : Timing) (g : Geometry) (state : TimingState) (cmd : Command) (clock : ℕ) → AreInLimits t → ∥ ((list : List Stamped) × StandsFor t g state list) ∥₁ → AllowsIn t g state cmd clock → IsInGeometry g cmd
allowed_place t g state cmd clock limits some allows =
    ∥∥₁_elim some (in_geometry_prop g cmd) (λ s. (ready_lawful t g limits s.0 (record { clock = clock; cmd = cmd }) (allows.lawful s.0 s.1)).rows.place)
