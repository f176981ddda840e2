-- The candidates at a clock, and the choice among them.
use Rattle.std.specs.Prelude.{◌≡◌, ◌≢◌, ℕ, ◌-◌, ◌/◌, ◌≤◌, ◌<◌, ◌⊎◌, List, Option, Some, None}
use Rattle.ddr4_timing.specs.declared.command.Command.{Command}
use Rattle.ddr4_timing.specs.declared.command.Command.TheVariants.{PreAll, Ref}
use Rattle.ddr4_timing.specs.declared.command.Stamped.{Stamped}
use Rattle.ddr4_timing.specs.declared.place.BankAddress.{BankAddress}
use Rattle.ddr4_timing.specs.declared.place.Place.{Place}
use Rattle.ddr4_timing.specs.declared.timing.Timing.{Timing}
use Rattle.ddr4_timing.specs.declared.timing.Checked.{Checked}
use Rattle.ddr4_timing.specs.Lawful.{open_row, ref_count, IsLawful}
use Rattle.ddr4_timing.specs.Places.{bank_at}
use Rattle.bank_core.specs.Stands.{with_command}
use Rattle.request_notes.specs.declared.pending.Pending.{Pending}
use Rattle.request_notes.specs.Requests.{IsEligible, column_of, act_of, pre_of}

-- Eight or more REF of the rank are owed at the clock.
abbrev pub IsInLead : Timing → List Stamped → ℕ → ℕ → Type 0
IsInLead t list clock rank = 8 ≤ clock / t.t_refi - ref_count rank list

-- Another row than the place's is open in its bank.
abbrev pub IsOtherOpen : List Stamped → Place → Type 0
IsOtherOpen list place = (row : ℕ) × (open_row (bank_at place) list ≡ Some row) × (row ≢ place.row)

-- No eligible request of the bank has the row that is open there.
abbrev pub IsUnhit : List Stamped → List Pending → BankAddress → Type 0
IsUnhit list pending bank =
    (j : ℕ) (q : Pending) → IsEligible pending j q → bank_at q.place ≡ bank → open_row bank list ≢ Some q.place.row

-- REF or PREA of a rank in lead; which of the two is lawful, the banks decide.
pub record OffersRank (c : Checked) (list : List Stamped) (clock rank : ℕ) (cmd : Command) : Type 0 where
  pub within : rank < c.geometry.ranks
  pub lead : IsInLead c.timing list clock rank
  pub kind : (cmd ≡ Ref rank) ⊎ (cmd ≡ PreAll rank)
  pub lawful : IsLawful c (with_command list clock cmd)

-- The request isn't of a rank in lead, and the command is lawful at the clock.
pub record MayHave (c : Checked) (list : List Stamped) (clock : ℕ) (p : Pending) (cmd : Command) : Type 0 where
  pub rests : ¬ IsInLead c.timing list clock p.place.rank
  pub lawful : IsLawful c (with_command list clock cmd)

-- RD or WR of a request whose row is open.
abbrev pub WantsColumn : List Stamped → Pending → Command → Type 0
WantsColumn list p cmd = (open_row (bank_at p.place) list ≡ Some p.place.row) × (cmd ≡ column_of p.kind p.place)

-- ACT of a request whose bank is closed, or PRE where another row is open and no eligible request hits that row.
abbrev pub WantsRow : List Stamped → List Pending → Pending → Command → Type 0
WantsRow list pending p cmd =
    ((open_row (bank_at p.place) list ≡ None) × (cmd ≡ act_of p.place))
    ⊎ (IsOtherOpen list p.place × IsUnhit list pending (bank_at p.place) × (cmd ≡ pre_of p.place))

-- Whose turn it is: a rank's, or that of a request, for its RD or WR or for its ACT or PRE.
pub data Turn : Type 0 where
  OfRank : ℕ → Turn
  OfColumn : Pending → Turn
  OfRow : Pending → Turn

-- The command is a candidate at the clock, in this turn.
abbrev pub IsCandidate : Checked → List Stamped → List Pending → ℕ → Turn → Command → Type 0
IsCandidate c list pending clock (OfRank rank) cmd = OffersRank c list clock rank cmd
IsCandidate c list pending clock (OfColumn p) cmd =
    (i : ℕ) × IsEligible pending i p × MayHave c list clock p cmd × WantsColumn list p cmd
IsCandidate c list pending clock (OfRow p) cmd =
    (i : ℕ) × IsEligible pending i p × MayHave c list clock p cmd × WantsRow list pending p cmd

-- ranks come first, then RD and WR, then ACT and PRE
abbrev pub class_of : Turn → ℕ
class_of (OfRank rank) = 0
class_of (OfColumn p) = 1
class_of (OfRow p) = 2

-- within a class the smaller rank comes first, or the older request
abbrev pub tie_break_of : Turn → ℕ
tie_break_of (OfRank rank) = rank
tie_break_of (OfColumn p) = p.seq
tie_break_of (OfRow p) = p.seq

-- One turn doesn't come after another.
pub record IsNotAfter (a b : Turn) : Type 0 where
  pub class : class_of a ≤ class_of b
  pub number : class_of a ≡ class_of b → tie_break_of a ≤ tie_break_of b

-- There is no candidate at the clock.
abbrev pub HasNoCandidate : Checked → List Stamped → List Pending → ℕ → Type 0
HasNoCandidate c list pending clock = (turn : Turn) (cmd : Command) → ¬ IsCandidate c list pending clock turn cmd

-- A candidate that no other comes before.
pub record IsLeast (c : Checked) (list : List Stamped) (pending : List Pending) (clock : ℕ) (turn : Turn) (cmd : Command) : Type 0 where
  pub candidate : IsCandidate c list pending clock turn cmd
  pub least : (other : Turn) (next : Command) → IsCandidate c list pending clock other next → IsNotAfter turn other

-- The choice at the clock: the least candidate, or none where there is none.
abbrev pub IsChoice : Checked → List Stamped → List Pending → ℕ → Option Command → Type 0
IsChoice c list pending clock None = HasNoCandidate c list pending clock
IsChoice c list pending clock (Some cmd) = (turn : Turn) × IsLeast c list pending clock turn cmd
