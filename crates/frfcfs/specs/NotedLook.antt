-- What the look at the banks of which a request is noted has found.
use Rattle.std.specs.Prelude.{◌≡◌, ℕ, ◌/◌, ◌%◌, ◌<◌, ◌≤◌, ◌⊎◌, List, Contains}
use Rattle.ddr4_timing.specs.declared.command.Command.{Command}
use Rattle.ddr4_timing.specs.declared.command.Stamped.{Stamped}
use Rattle.ddr4_timing.specs.declared.place.BankAddress.{BankAddress}
use Rattle.ddr4_timing.specs.declared.timing.Checked.{Checked}
use Rattle.ddr4_timing.specs.declared.timing.Geometry.{Geometry}
use Rattle.ddr4_timing.specs.Lawful.{open_row}
use Rattle.ddr4_timing.specs.Places.{HasBank, bank_at, bank_index}
use Rattle.request_notes.specs.declared.bank_set.BankSet.{BankSet}
use Rattle.request_notes.specs.declared.key.Key.{Key}
use Rattle.frfcfs.specs.declared.noted_look.NotedLook.{NotedLook}
use Rattle.frfcfs.specs.declared.noted_look.Soon.{Soon}
use Rattle.request_notes.specs.declared.notes.Note.{Note}
use Rattle.request_notes.specs.declared.pending.Kind.TheVariants.{Read}
use Rattle.request_notes.specs.declared.pending.Pending.{Pending}
use Rattle.request_notes.specs.BankSets.{Has}
use Rattle.frfcfs.specs.Candidates.{WantsColumn, WantsRow}
use Rattle.frfcfs.specs.Keys.{AreKeysIn}
use Rattle.request_notes.specs.Notes.{IsFree, IsNoteOf}
use Rattle.frfcfs.specs.Search.{IsEnd, Takes}

-- the bank of a number in a table of 64
abbrev pub address_of : ℕ → BankAddress
address_of n = record { rank = n / 16; group = n / 4 % 4; bank = n % 4 }

-- The geometry has the bank of each number in a set, and a place in it.
abbrev pub AreThere : Geometry → BankSet → Type 0
AreThere g banks = (n : ℕ) → n < 64 → Has banks n → HasBank g (address_of n) × (0 < g.rows) × (0 < g.columns)

-- The request's bank isn't left to be looked at,
abbrev pub IsPast : BankSet → Pending → Type 0
IsPast left p = ¬ Has left (bank_index (bank_at p.place))

-- or it is the one of a number, and the request a read.
abbrev pub IsPastOrRead : BankSet → ℕ → Pending → Type 0
IsPastOrRead left n p = IsPast left p ⊎ ((bank_index (bank_at p.place) ≡ n) × (p.kind ≡ Read))

-- Requests that were looked at want a command.
abbrev pub WantsSeen : (Pending → Command → Type 0) → (Pending → Type 0) → Pending → Command → Type 0
WantsSeen Wants IsSeen p cmd = Wants p cmd × IsSeen p

-- At the clock the eligible request of a seq may have a command that it wants.
abbrev pub TakesBySeq : (Pending → Command → Type 0) → Checked → List Stamped → List Pending → ℕ → ℕ → ℕ → Type 0
TakesBySeq Wants c list pending last seq clock = (index : ℕ) × (takes : Takes Wants c list pending last index clock) × (takes.0.seq ≡ seq)

-- None takes sooner from now on, and none that takes at that clock is older.
pub record IsSoonest (TakesAt : ℕ → ℕ → Type 0) (now limit : ℕ) (soon : Soon) : Type 0 where
  pub found : soon.clock < limit → TakesAt soon.seq soon.clock
  pub first : (seq clock : ℕ) → now ≤ clock → TakesAt seq clock → (clock < limit) × (soon.clock ≤ clock) × (clock ≡ soon.clock → soon.seq ≤ seq)

-- The soonest of each class,
pub record AreSoonest (c : Checked) (list : List Stamped) (pending : List Pending) (now last limit : ℕ) (look : NotedLook) : Type 0 where
  pub column : IsSoonest (TakesBySeq (WantsColumn list) c list pending last) now limit look.column
  pub row : IsSoonest (TakesBySeq (WantsRow list pending) c list pending last) now limit look.row

-- the soonest RD or WR of the requests that were looked at,
abbrev pub SoonestColumn : Checked → List Stamped → List Pending → ℕ → ℕ → ℕ → (Pending → Type 0) → Soon → Type 0
SoonestColumn c list pending now last limit IsSeen soon = IsSoonest (TakesBySeq (WantsSeen (WantsColumn list) IsSeen) c list pending last) now limit soon

-- of those whose bank isn't left,
abbrev pub SoonestColumnBut : Checked → List Stamped → List Pending → ℕ → ℕ → ℕ → BankSet → Soon → Type 0
SoonestColumnBut c list pending now last limit left soon = SoonestColumn c list pending now last limit (IsPast left) soon

-- and of the reads of the bank of a number beside them,
abbrev pub SoonestColumnButWrites : Checked → List Stamped → List Pending → ℕ → ℕ → ℕ → BankSet → ℕ → Soon → Type 0
SoonestColumnButWrites c list pending now last limit left n soon = SoonestColumn c list pending now last limit (IsPastOrRead left n) soon

-- the soonest ACT or PRE,
abbrev pub SoonestRow : Checked → List Stamped → List Pending → ℕ → ℕ → ℕ → (Pending → Type 0) → Soon → Type 0
SoonestRow c list pending now last limit IsSeen soon = IsSoonest (TakesBySeq (WantsSeen (WantsRow list pending) IsSeen) c list pending last) now limit soon

-- and both, of those whose bank isn't left.
pub record AreSoonestBut (c : Checked) (list : List Stamped) (pending : List Pending) (now last limit : ℕ) (left : BankSet) (look : NotedLook) : Type 0 where
  pub column : SoonestColumnBut c list pending now last limit left look.column
  pub row : SoonestRow c list pending now last limit (IsPast left) look.row

-- The note is that of the bank of a number, whose open row it has, and whose requests may have their commands before an end.
pub record IsNoted (c : Checked) (list : List Stamped) (pending : List Pending) (keys : List Key) (last limit n end : ℕ) (note : Note) : Type 0 where
  pub keyed : AreKeysIn c.geometry pending keys
  pub told : IsNoteOf keys n note
  pub there : HasBank c.geometry (address_of n)
  pub row : open_row (address_of n) list ≡ note.row
  pub ends : IsEnd c list (address_of n).rank last end
  pub early : end ≤ limit

-- A clock below the limit is no earlier than now, and its seq that of an eligible key.
abbrev pub IsNotedFound : List Key → ℕ → ℕ → Soon → Type 0
IsNotedFound keys now limit soon = soon.clock < limit → (now ≤ soon.clock) × ((k : Key) × Contains keys k × IsFree k × (k.seq ≡ soon.seq))

-- the same of each class
abbrev pub AreNotedFound : List Key → ℕ → ℕ → NotedLook → Type 0
AreNotedFound keys now limit look = IsNotedFound keys now limit look.column × IsNotedFound keys now limit look.row

-- the better of a soonest one and another, which may have its command from a clock on and before an end; of two at one clock the older
abbrev pub IsSooner : Soon → ℕ → ℕ → ℕ → Soon → Type 0
IsSooner old seq from end new =
    ((from < end) × ((from < old.clock) ⊎ ((from ≡ old.clock) × (seq < old.seq))) × (new ≡ record { clock = from; seq = seq }))
    ⊎ (((end ≤ from) ⊎ ((old.clock < from) ⊎ ((from ≡ old.clock) × (old.seq ≤ seq)))) × (new ≡ old))
