-- What the inner functions of the search tell each other.
use Rattle.std.specs.Prelude.{◌≡◌, ℕ, ◌+◌, ◌-◌, ◌<◌, ◌≤◌, ◌⊎◌, ◌↔◌, ◌^◌, min, false, Bool, IsTrue, List, length, slice_get, slice_index, slice_index_or, Option, Some, None}
use Rattle.ddr4_timing.specs.declared.command.Command.{Command}
use Rattle.ddr4_timing.specs.declared.command.Stamped.{Stamped}
use Rattle.ddr4_timing.specs.declared.place.BankAddress.{BankAddress}
use Rattle.ddr4_timing.specs.declared.timing.Checked.{Checked}
use Rattle.ddr4_timing.specs.declared.timing.Geometry.{Geometry}
use Rattle.ddr4_timing.specs.Lawful.{is_asleep, open_row}
use Rattle.ddr4_timing.specs.Places.{HasBank, LiesIn, bank_at, bank_index}
use Rattle.frfcfs.specs.declared.best.Best.{Best}
use Rattle.frfcfs.specs.declared.best.Bests.{Bests}
use Rattle.frfcfs.specs.declared.next.Next.{Next}
use Rattle.request_notes.specs.declared.pending.Pending.{Pending}
use Rattle.request_notes.specs.Requests.{IsFirst, IsEligible}
use Rattle.frfcfs.specs.Candidates.{IsInLead, MayHave, OffersRank, WantsColumn, WantsRow}

-- The marks of the first requests of a list: each says whether its request is the first of its line, which lies in the geometry.
abbrev pub AreMarks : Geometry → List Pending → List Bool → Type 0
AreMarks g pending marks =
    (index : ℕ) (request : Pending) → index < length marks → slice_get pending index ≡ Some request
    → LiesIn g request.place × (IsTrue (slice_index_or marks index false) ↔ IsFirst pending request)

-- The request at an index is eligible, and the geometry has its bank.
abbrev pub IsEligibleIn : Geometry → List Pending → ℕ → Pending → Type 0
IsEligibleIn g pending index request = IsEligible pending index request × HasBank g (bank_at request.place)

-- Some request is eligible, and the geometry has its bank.
abbrev pub HasEligibleIn : Geometry → List Pending → Type 0
HasEligibleIn g pending = (i : ℕ) × (p : Pending) × IsEligible pending i p × HasBank g (bank_at p.place)

-- Some eligible request before an index hits the row that is open in the bank.
abbrev pub HasHit : List Stamped → List Pending → ℕ → BankAddress → Type 0
HasHit list pending end bank =
    (index : ℕ) × (request : Pending) × (index < end) × IsEligible pending index request
    × (bank_at request.place ≡ bank) × (open_row bank list ≡ Some request.place.row)

-- The table says of each bank whether an eligible request before an index hits its open row.
abbrev pub AreHits : Geometry → List Stamped → List Pending → ℕ → List Bool → Type 0
AreHits g list pending end hits =
    (bank : BankAddress) → HasBank g bank → (IsTrue (slice_index_or hits (bank_index bank) false) ↔ HasHit list pending end bank)

-- The requests of a rank may have their commands at the clocks of a span that lie before this one.
abbrev pub IsEnd : Checked → List Stamped → ℕ → ℕ → ℕ → Type 0
IsEnd c list rank last end =
    (clock : ℕ) → ((clock < end) ↔ ((clock ≤ last) × (¬ IsTrue (is_asleep rank list)) × (¬ IsInLead c.timing list clock rank)))

abbrev pub AreEnds : Checked → List Stamped → ℕ → List ℕ → Type 0
AreEnds c list last ends = (rank : ℕ) → rank < c.geometry.ranks → IsEnd c list rank last (slice_index ends rank)

-- the clock behind the last one of a span
abbrev pub limit_of : ℕ → ℕ
limit_of last = min (last + 1) (2 ^ 64 - 1)

-- At the clock, which is no later than the last one, the eligible request at an index may have a command that it wants.
abbrev pub Takes : (Pending → Command → Type 0) → Checked → List Stamped → List Pending → ℕ → ℕ → ℕ → Type 0
Takes Wants c list pending last index clock =
    (request : Pending) × (cmd : Command) × (clock ≤ last) × IsEligible pending index request
    × MayHave c list clock request cmd × Wants request cmd

-- the better of a best one and a younger one, which may have its command from a clock on and before an end
abbrev pub IsBetter : Best → ℕ → ℕ → ℕ → Best → Type 0
IsBetter old index from end new =
    ((from < min end old.clock) × (new ≡ record { clock = from; index = index }))
    ⊎ ((min end old.clock ≤ from) × (new ≡ old))

-- before any request was looked at
abbrev pub no_bests : ℕ → Bests
no_bests limit = record { column = record { clock = limit; index = 0 }; row = record { clock = limit; index = 0 } }

-- Of the requests before an index, none takes sooner from now on, and none that takes at that clock is older.
pub record IsBest (TakesAt : ℕ → ℕ → Type 0) (now limit end : ℕ) (best : Best) : Type 0 where
  pub found : best.clock < limit → (best.index < end) × TakesAt best.index best.clock
  pub first : (index clock : ℕ) → index < end → now ≤ clock → TakesAt index clock →
      (clock < limit) × (best.clock ≤ clock) × (clock ≡ best.clock → best.index ≤ index)

-- the best of each class among the requests before an index
pub record AreBest (c : Checked) (list : List Stamped) (pending : List Pending) (now last limit end : ℕ) (bests : Bests) : Type 0 where
  pub column : IsBest (Takes (WantsColumn list) c list pending last) now limit end bests.column
  pub row : IsBest (Takes (WantsRow list pending) c list pending last) now limit end bests.row

-- the best of each class among all requests, in a span up to a last clock
abbrev pub AreAllBest : Checked → List Stamped → List Pending → ℕ → ℕ → Bests → Type 0
AreAllBest c list pending now last bests = AreBest c list pending now last (limit_of last) (length pending) bests

-- A clock below the limit is no earlier than now, and its index that of an eligible request.
abbrev pub IsFound : Geometry → List Pending → ℕ → ℕ → Best → Type 0
IsFound g pending now limit best =
    best.clock < limit → (now ≤ best.clock) × ((request : Pending) × IsEligibleIn g pending best.index request)

-- the same of each class
abbrev pub AreFound : Geometry → List Pending → ℕ → ℕ → Bests → Type 0
AreFound g pending now limit bests = IsFound g pending now limit bests.column × IsFound g pending now limit bests.row

-- The best of each class as far as the choice asks for it: an ACT or PRE only where it goes sooner than each RD and WR.
pub record AreBestInTurn (c : Checked) (list : List Stamped) (pending : List Pending) (now last limit end : ℕ) (bests : Bests) : Type 0 where
  pub column : IsBest (Takes (WantsColumn list) c list pending last) now limit end bests.column
  pub row : bests.row.clock < bests.column.clock → IsBest (Takes (WantsRow list pending) c list pending last) now limit end bests.row
  pub later : (index clock : ℕ) → index < end → now ≤ clock → Takes (WantsRow list pending) c list pending last index clock → (clock < limit) × (bests.row.clock ≤ clock)

-- the same among all requests, in a span up to a last clock
abbrev pub AreAllBestInTurn : Checked → List Stamped → List Pending → ℕ → ℕ → Bests → Type 0
AreAllBestInTurn c list pending now last bests = AreBestInTurn c list pending now last (limit_of last) (length pending) bests

-- Their indices are those of eligible requests, as far as the choice asks for them.
abbrev pub AreFoundInTurn : Geometry → List Pending → ℕ → ℕ → Bests → Type 0
AreFoundInTurn g pending now last bests =
    IsFound g pending now (limit_of last) bests.column × (bests.row.clock < bests.column.clock → IsFound g pending now (limit_of last) bests.row)

-- The answer says whether some request is eligible, and the geometry has its bank.
abbrev pub TellsEligible : Geometry → List Pending → Bool → Type 0
TellsEligible g pending any = IsTrue any ↔ HasEligibleIn g pending

-- A command goes in a span, and serves no request.
abbrev pub ServesNobodyIn : ℕ → ℕ → Next → Type 0
ServesNobodyIn now last next = (now ≤ next.clock) × (next.clock ≤ last) × (next.serves ≡ None)

-- Of some ranks, none has its REF or PREA sooner in a span, and none that has it at that clock is a smaller one.
pub record IsRankNextAt (c : Checked) (list : List Stamped) (now last low end : ℕ) (next : Next) : Type 0 where
  pub rank : ℕ
  pub from : low ≤ rank
  pub until : rank < end
  pub offers : OffersRank c list next.clock rank next.cmd
  pub first : (other clock : ℕ) (cmd : Command) → low ≤ other → other < end → now ≤ clock → clock ≤ last →
      OffersRank c list clock other cmd → (next.clock ≤ clock) × (clock ≡ next.clock → rank ≤ other)

-- the same, or none where none of the ranks has one in the span
abbrev pub IsRankNext : Checked → List Stamped → ℕ → ℕ → ℕ → ℕ → Option Next → Type 0
IsRankNext c list now last low end None =
    (rank clock : ℕ) (cmd : Command) → low ≤ rank → rank < end → now ≤ clock → clock ≤ last → ¬ OffersRank c list clock rank cmd
IsRankNext c list now last low end (Some next) = IsRankNextAt c list now last low end next

-- the one of two that goes first, and the first of them where both go at one clock
abbrev pub IsSoonerOf : Option Next → Option Next → Option Next → Type 0
IsSoonerOf None other sooner = sooner ≡ other
IsSoonerOf (Some x) None sooner = sooner ≡ Some x
IsSoonerOf (Some x) (Some y) sooner =
    ((x.clock ≤ y.clock) × (sooner ≡ Some x)) ⊎ ((y.clock < x.clock) × (sooner ≡ Some y))
