-- What two lists leave to the next command.
use Rattle.std.specs.Prelude.{◌≡◌, ℕ, ◌<◌, ◌↔◌, List}
use Rattle.ddr4_timing.specs.declared.command.Command.{Command}
use Rattle.ddr4_timing.specs.declared.command.Stamped.{Stamped}
use Rattle.ddr4_timing.specs.declared.place.BankAddress.{BankAddress}
use Rattle.ddr4_timing.specs.declared.timing.Geometry.{Geometry}
use Rattle.ddr4_timing.specs.declared.timing.Timing.{Timing}
use Rattle.ddr4_timing.specs.Floors.{floor, least_clock}
use Rattle.ddr4_timing.specs.Lawful.{IsInGeometry, IsLawfulIn, open_row, last_ref, ref_count, is_asleep, with_command}
use Rattle.ddr4_timing.specs.Places.{HasBank}

-- Two lists leave the same to the next command.
pub record LeaveTheSame (t : Timing) (g : Geometry) (one two : List Stamped) : Type 0 where
  pub open_row : (at : BankAddress) → HasBank g at → open_row at one ≡ open_row at two
  pub last_ref : (rank : ℕ) → rank < g.ranks → last_ref rank one ≡ last_ref rank two
  pub ref_count : (rank : ℕ) → rank < g.ranks → ref_count rank one ≡ ref_count rank two
  pub is_asleep : (rank : ℕ) → rank < g.ranks → is_asleep rank one ≡ is_asleep rank two
  pub floor : (x : Command) → IsInGeometry g x → floor t one x ≡ floor t two x
  pub least_clock : (x : Command) → IsInGeometry g x → least_clock t one x ≡ least_clock t two x
  pub lawful : (clock : ℕ) (x : Command) → IsLawfulIn t g (with_command one clock x) ↔ IsLawfulIn t g (with_command two clock x)
