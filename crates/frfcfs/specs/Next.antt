-- The first clock that has a candidate, and the choice there.
use Rattle.std.specs.Prelude.{◌≡◌, ℕ, ◌-◌, ◌<◌, ◌≤◌, ◌⊎◌, ◌^◌, List, slice_get, Option, Some, None}
use Rattle.ddr4_timing.specs.declared.command.Stamped.{Stamped}
use Rattle.ddr4_timing.specs.declared.timing.Checked.{Checked}
use Rattle.request_notes.specs.declared.pending.Pending.{Pending}
use Rattle.frfcfs.specs.declared.next.Next.{Next}
use Rattle.request_notes.specs.Requests.{IsEligible}
use Rattle.frfcfs.specs.Candidates.{IsInLead, Turn, OfRank, OfColumn, OfRow, HasNoCandidate, IsLeast}

-- which request is served in a turn: that of a RD or WR, by its place in the list
abbrev pub ServesInTurn : List Pending → Turn → Option ℕ → Type 0
ServesInTurn pending (OfColumn p) (Some i) = slice_get pending i ≡ Some p
ServesInTurn pending (OfColumn p) None = ⊥
ServesInTurn pending (OfRank rank) place = place ≡ None
ServesInTurn pending (OfRow p) place = place ≡ None

-- At the first clock of a span that has a candidate, the choice there, and the request that it serves.
pub record IsNextAt (c : Checked) (list : List Stamped) (pending : List Pending) (now last : ℕ) (next : Next) : Type 0 where
  pub from : now ≤ next.clock
  pub until : next.clock ≤ last
  pub sooner : (k : ℕ) → now ≤ k → k < next.clock → HasNoCandidate c list pending k
  pub turn : Turn
  pub choice : IsLeast c list pending next.clock turn next.cmd
  pub serves : ServesInTurn pending turn next.serves

-- The same, or none where no clock of the span has a candidate.
abbrev pub IsNextIn : Checked → List Stamped → List Pending → ℕ → ℕ → Option Next → Type 0
IsNextIn c list pending now last None = (k : ℕ) → now ≤ k → k ≤ last → HasNoCandidate c list pending k
IsNextIn c list pending now last (Some next) = IsNextAt c list pending now last next

-- The same from now on, among the clocks below 2^63.
abbrev pub IsNext : Checked → List Stamped → List Pending → ℕ → Option Next → Type 0
IsNext c list pending now next = IsNextIn c list pending now (2 ^ 63 - 1) next

-- The request at the place is eligible.
abbrev pub IsServable : List Pending → ℕ → Type 0
IsServable pending i = (p : Pending) × IsEligible pending i p

-- Some request is eligible, or some rank is in lead at the clock.
abbrev pub HasWork : Checked → List Stamped → List Pending → ℕ → Type 0
HasWork c list pending clock =
    ((rank : ℕ) × (rank < c.geometry.ranks) × IsInLead c.timing list clock rank)
    ⊎ ((i : ℕ) × (p : Pending) × IsEligible pending i p)
