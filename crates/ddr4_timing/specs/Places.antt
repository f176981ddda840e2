-- The banks and the places of a geometry.
use Rattle.std.specs.Prelude.{ℕ, ◌+◌, ◌*◌, ◌<◌, Bool, ◌==◌, ◌&&◌}
use Rattle.ddr4_timing.specs.declared.place.BankAddress.{BankAddress}
use Rattle.ddr4_timing.specs.declared.place.Place.{Place}
use Rattle.ddr4_timing.specs.declared.timing.Geometry.{Geometry}

-- the geometry has the bank
pub record HasBank (g : Geometry) (at : BankAddress) : Type 0 where
  pub rank : at.rank < g.ranks
  pub group : at.group < g.groups
  pub bank : at.bank < g.banks

-- a rank has room for the bank
pub record HasSlot (at : BankAddress) : Type 0 where
  pub group : at.group < 4
  pub bank : at.bank < 4

-- the two lie in one group
abbrev pub is_group : BankAddress → BankAddress → Bool
is_group a b = a.rank == b.rank && a.group == b.group

-- the two are one bank
abbrev pub is_bank : BankAddress → BankAddress → Bool
is_bank a b = is_group a b && a.bank == b.bank

-- where a bank stands in a table of a rank's banks
abbrev pub slot_of : BankAddress → ℕ
slot_of at = at.group * 4 + at.bank

-- where a bank stands in a table of all banks
abbrev pub bank_index : BankAddress → ℕ
bank_index at = at.rank * 16 + slot_of at

-- the bank in which a place lies
abbrev pub bank_at : Place → BankAddress
bank_at p = record { rank = p.rank; group = p.group; bank = p.bank }

-- each number of the place is below that of the geometry
pub record LiesIn (g : Geometry) (p : Place) : Type 0 where
  pub channel : p.channel < g.channels
  pub rank : p.rank < g.ranks
  pub group : p.group < g.groups
  pub bank : p.bank < g.banks
  pub row : p.row < g.rows
  pub column : p.column < g.columns
