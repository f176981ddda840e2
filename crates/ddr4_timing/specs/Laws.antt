-- What the laws say of lawful lists.
use Rattle.std.specs.Prelude.{◌≡◌, ◌↔◌, ℕ, ◌≤◌, ◌+◌, ◌*◌, List, ◌∷◌, [], ◌++◌, take}
use Rattle.ddr4_timing.specs.declared.command.Stamped.{Stamped}
use Rattle.ddr4_timing.specs.declared.fault.Fault.{Fault}
use Rattle.ddr4_timing.specs.declared.timing.Geometry.{Geometry}
use Rattle.ddr4_timing.specs.declared.timing.Timing.{Timing}
use Rattle.ddr4_timing.specs.Command.{rank_of}
use Rattle.ddr4_timing.specs.Floors.{least_clock}
use Rattle.ddr4_timing.specs.Lawful.{IsLawfulIn, IsLeastFault, KeepsRows, MayComeNext, last_ref}

-- each command of the list may come next after those before it
abbrev pub GoesInTurn : Timing → Geometry → List Stamped → Type 0
GoesInTurn t g list =
    (before : List Stamped) (x : Stamped) (after : List Stamped) → list ≡ before ++ x ∷ after → MayComeNext t g before x

-- A list with one more command is lawful exactly where the list is and the command may come next.
abbrev pub StaysLawfulWith : Timing → Geometry → List Stamped → Stamped → Type 0
StaysLawfulWith t g list x = IsLawfulIn t g (list ++ x ∷ []) ↔ (IsLawfulIn t g list × MayComeNext t g list x)

-- a clock from the least one on up to nine intervals after the rank's last REF
abbrev pub IsInSpan : Timing → List Stamped → Stamped → Type 0
IsInSpan t list x =
    (least_clock t list x.cmd ≤ x.clock) × (x.clock ≤ last_ref (rank_of x.cmd) list + 9 * t.t_refi)

-- A lawful list stays lawful with a command exactly where the banks are as this wants them and its clock is in its span.
abbrev pub StaysLawfulInSpan : Timing → Geometry → List Stamped → Stamped → Type 0
StaysLawfulInSpan t g list x = IsLawfulIn t g list → (IsLawfulIn t g (list ++ x ∷ []) ↔ (KeepsRows g list x.cmd × IsInSpan t list x))

-- where the first i commands of a list are lawful and one more is not, a least fault is at the index i
abbrev pub IsBehindFront : Timing → Geometry → List Stamped → ℕ → Fault → Type 0
IsBehindFront t g list i f =
    IsLawfulIn t g (take i list) → (¬ IsLawfulIn t g (take (i + 1) list)) → IsLeastFault t g list f → f.second ≡ i
