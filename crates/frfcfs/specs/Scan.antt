-- What the one look at each request of a queue has found.
use Rattle.std.specs.Prelude.{◌≡◌, ℕ, ◌+◌, ◌*◌, ◌<◌, ◌≤◌, ◌⊎◌, false, IsTrue, List, slice_index, slice_index_or, None, Some}
use Rattle.ddr4_timing.specs.declared.command.Command.{Command}
use Rattle.ddr4_timing.specs.declared.command.Stamped.{Stamped}
use Rattle.ddr4_timing.specs.declared.place.BankAddress.{BankAddress}
use Rattle.ddr4_timing.specs.declared.timing.Checked.{Checked}
use Rattle.ddr4_timing.specs.declared.timing.Geometry.{Geometry}
use Rattle.ddr4_timing.specs.Lawful.{open_row}
use Rattle.ddr4_timing.specs.Places.{HasBank, bank_at, bank_index}
use Rattle.request_notes.specs.declared.bank_set.BankSet.{BankSet}
use Rattle.frfcfs.specs.declared.best.Best.{Best}
use Rattle.request_notes.specs.declared.pending.Kind.{Kind}
use Rattle.request_notes.specs.declared.pending.Kind.TheVariants.{Read, Write}
use Rattle.request_notes.specs.declared.pending.Pending.{Pending}
use Rattle.frfcfs.specs.declared.scan.Scan.{Scan}
use Rattle.request_notes.specs.BankSets.{Has}
use Rattle.request_notes.specs.Requests.{IsEligible, act_of, pre_of}
use Rattle.frfcfs.specs.Candidates.{IsOtherOpen, IsUnhit, MayHave, WantsColumn}
use Rattle.frfcfs.specs.Search.{AreFound, IsBest, IsEligibleIn, Takes}

-- where the flag of a bank, by its index, and a kind stands
abbrev pub flag_of : ℕ → Kind → ℕ
flag_of bank Read = 2 * bank
flag_of bank Write = 2 * bank + 1

-- A request of the bank and the kind was met: it was offered its RD or WR, or its ACT where the bank is closed.
abbrev pub IsMet : Scan → BankAddress → Kind → Type 0
IsMet scan bank kind = IsTrue (slice_index_or scan.met (flag_of (bank_index bank) kind) false)

-- ACT of a request whose bank is closed.
abbrev pub WantsAct : List Stamped → Pending → Command → Type 0
WantsAct list p cmd = (open_row (bank_at p.place) list ≡ None) × (cmd ≡ act_of p.place)

-- The same, or PRE where another row is open and no eligible request hits that row, but of the banks that are left.
abbrev pub WantsRowBut : List Stamped → List Pending → BankSet → Pending → Command → Type 0
WantsRowBut list pending left p cmd =
    WantsAct list p cmd
    ⊎ (IsOtherOpen list p.place × IsUnhit list pending (bank_at p.place) × (cmd ≡ pre_of p.place) × ¬ Has left (bank_index (bank_at p.place)))

-- From now on no eligible request of the bank and the kind may have a command that it wants before the clock.
abbrev pub IsNoSooner : (Pending → Command → Type 0) → Checked → List Stamped → List Pending → ℕ → ℕ → ℕ → BankAddress → Kind → ℕ → Type 0
IsNoSooner Wants c list pending now last limit bank kind best =
    (index clock : ℕ) (request : Pending) (cmd : Command) → now ≤ clock → clock ≤ last → IsEligible pending index request
    → bank_at request.place ≡ bank → request.kind ≡ kind → MayHave c list clock request cmd → Wants request cmd
    → (clock < limit) × (best ≤ clock)

-- An eligible request finds the bank closed, or hits its open row, and none of the kind has its RD, WR or ACT sooner than the best.
pub record IsPassed (c : Checked) (list : List Stamped) (pending : List Pending) (now last limit : ℕ) (scan : Scan) (bank : BankAddress) (kind : Kind) : Type 0 where
  pub index : ℕ
  pub request : Pending
  pub eligible : IsEligible pending index request
  pub here : bank_at request.place ≡ bank
  pub meets : ¬ IsOtherOpen list request.place
  pub column : IsNoSooner (WantsColumn list) c list pending now last limit bank kind scan.bests.column.clock
  pub act : IsNoSooner (WantsAct list) c list pending now last limit bank kind scan.bests.row.clock

-- What is true once the requests before an index were looked at.
pub record AreScanned (c : Checked) (list : List Stamped) (pending : List Pending) (now last limit end : ℕ) (scan : Scan) : Type 0 where
  pub column : IsBest (Takes (WantsColumn list) c list pending last) now limit end scan.bests.column
  pub act : IsBest (Takes (WantsAct list) c list pending last) now limit end scan.bests.row
  pub passed : (bank : BankAddress) (kind : Kind) → HasBank c.geometry bank → IsMet scan bank kind → IsPassed c list pending now last limit scan bank kind
  pub hits : (index : ℕ) (request : Pending) → index < end → IsEligible pending index request → HasBank c.geometry (bank_at request.place)
      → open_row (bank_at request.place) list ≡ Some request.place.row → IsMet scan (bank_at request.place) request.kind
  pub others : (index : ℕ) (request : Pending) → index < end → IsEligible pending index request → HasBank c.geometry (bank_at request.place)
      → IsOtherOpen list request.place
      → IsMet scan (bank_at request.place) request.kind
      ⊎ (Has scan.wanting (bank_index (bank_at request.place)) × (slice_index scan.others (bank_index (bank_at request.place)) ≤ index))
  pub noted : (bank : ℕ) (request : Pending) → Has scan.wanting bank → IsEligible pending (slice_index scan.others bank) request
      → IsOtherOpen list request.place × (bank_index (bank_at request.place) ≡ bank)
  pub earlier : (bank : ℕ) → Has scan.wanting bank → slice_index scan.others bank < end

-- The bests are those of eligible requests, and so are the places that are noted of the banks.
pub record IsScanFound (g : Geometry) (pending : List Pending) (now limit : ℕ) (scan : Scan) : Type 0 where
  pub bests : AreFound g pending now limit scan.bests
  pub others : (bank : ℕ) → Has scan.wanting bank → (request : Pending) × IsEligibleIn g pending (slice_index scan.others bank) request

-- the better of a best one and another, which may have its command from a clock on and before an end; of two at one clock the older
abbrev pub IsOlderBetter : Best → ℕ → ℕ → ℕ → Best → Type 0
IsOlderBetter old index from end new =
    ((from < end) × ((from < old.clock) ⊎ ((from ≡ old.clock) × (index < old.index))) × (new ≡ record { clock = from; index = index }))
    ⊎ (((end ≤ from) ⊎ ((old.clock < from) ⊎ ((from ≡ old.clock) × (old.index ≤ index)))) × (new ≡ old))
