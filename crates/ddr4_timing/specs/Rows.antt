-- The open rows of a rank.
use Rattle.std.specs.Prelude.{◌≡◌, ℕ, ◌<◌, Option, Some, None, false, if◌then◌else◌, slice_index_or}
use Rattle.ddr4_timing.specs.Places.{slot_of}
use Rattle.ddr4_timing.specs.declared.place.BankAddress.{BankAddress}
use Rattle.ddr4_timing.specs.declared.rows.Rows.{Rows}

-- the row that is open in a bank
abbrev pub row_in : Rows → BankAddress → Option ℕ
row_in r at = if slice_index_or r.is_open (slot_of at) false then Some (slice_index_or r.rows (slot_of at) 0) else None

-- so many banks of the rank are closed, in the order of their slots
abbrev pub AreFirstClosed : ℕ → Rows → Type 0
AreFirstClosed banks r = (k : ℕ) → k < banks → slice_index_or r.is_open k false ≡ false
