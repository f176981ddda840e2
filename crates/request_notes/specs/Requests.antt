-- Pending requests, and which of them may be served.
use Rattle.std.specs.Prelude.{◌≡◌, ◌≢◌, ℕ, ◌<◌, false, List, slice_get, Some, All, AllPairs}
use Rattle.ddr4_timing.specs.declared.command.Command.{Command}
use Rattle.ddr4_timing.specs.declared.command.Command.TheVariants.{Act, Rd, Wr, Pre}
use Rattle.ddr4_timing.specs.declared.place.Place.{Place}
use Rattle.ddr4_timing.specs.Places.{bank_at}
use Rattle.request_notes.specs.declared.pending.Kind.{Kind}
use Rattle.request_notes.specs.declared.pending.Kind.TheVariants.{Read, Write}
use Rattle.request_notes.specs.declared.pending.Pending.{Pending}

-- The requests stand in order of arrival.
abbrev pub AreInOrder : List Pending → Type 0
AreInOrder pending = AllPairs (λ p q. p.seq < q.seq) pending

-- No older pending request names the line of p.
abbrev pub IsFirst : List Pending → Pending → Type 0
IsFirst pending p = All (λ q. q.seq < p.seq → q.line ≢ p.line) pending

-- The request p, at the place i, isn't held, and no older pending request names its line.
pub record IsEligible (pending : List Pending) (i : ℕ) (p : Pending) : Type 0 where
  pub here : slice_get pending i ≡ Some p
  pub free : p.held ≡ false
  pub oldest : IsFirst pending p

-- the column command of a request
abbrev pub column_of : Kind → Place → Command
column_of Read p = Rd (bank_at p) p.column
column_of Write p = Wr (bank_at p) p.column

-- the activate of a place's row
abbrev pub act_of : Place → Command
act_of p = Act (bank_at p) p.row

-- the precharge of a place's bank
abbrev pub pre_of : Place → Command
pre_of p = Pre (bank_at p)
