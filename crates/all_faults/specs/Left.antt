-- What commands leave to the next one.
use Rattle.std.specs.Prelude.{◌≡◌, ℕ, ◌+◌, ◌<◌, ◌-◌, ◌^◌, Bool, true, ◌==◌, if◌then◌else◌, List, Option, None, slice_index_or}
use Rattle.ddr4_timing.specs.declared.command.Stamped.{Stamped}
use Rattle.ddr4_timing.specs.declared.place.BankAddress.{BankAddress}
use Rattle.ddr4_timing.specs.declared.timing.Geometry.{Geometry}
use Rattle.ddr4_timing.specs.declared.timing.Timing.{Timing}
use Rattle.ddr4_timing.specs.Lawful.{is_asleep, last_ref, open_row, ref_count}
use Rattle.ddr4_timing.specs.Places.{HasBank, is_bank, slot_of}
use Rattle.all_faults.specs.declared.left.Banks.{Banks}
use Rattle.all_faults.specs.declared.left.Left.{Left}

-- a slot has this row, and the others the ones that they had
abbrev pub PutsSlot : ℕ → Option ℕ → Banks → Banks → Type 0
PutsSlot slot row old new = (k : ℕ) (bank : Option ℕ) → k < 16 → slice_index_or new.rows k bank ≡ (if slot == k then row else slice_index_or old.rows k bank)

-- the row that is kept of a bank is this one
abbrev pub KeepsRow : Left → BankAddress → Option ℕ → Type 0
KeepsRow left at row = (bank : Option ℕ) (banks : Banks) → slice_index_or (slice_index_or left.ranks at.rank banks).rows (slot_of at) bank ≡ row

-- what is kept of the banks and ranks of a geometry is what the commands leave
pub record IsLeftBy (g : Geometry) (left : Left) (list : List Stamped) : Type 0 where
  pub rows : (at : BankAddress) → HasBank g at → KeepsRow left at (open_row at list)
  pub last : (rank none : ℕ) → rank < g.ranks → slice_index_or left.last rank none ≡ last_ref rank list
  pub refs : (rank none : ℕ) → rank < g.ranks → slice_index_or left.refs rank none ≡ ref_count rank list
  pub asleep : (rank : ℕ) (none : Bool) → rank < g.ranks → slice_index_or left.asleep rank none ≡ is_asleep rank list

-- only what is kept of rows may be new
abbrev pub SameRanks : Left → Left → Type 0
SameRanks old new = (new.last ≡ old.last) × (new.refs ≡ old.refs) × (new.asleep ≡ old.asleep)

-- a bank has this row, and the others the ones that they had
abbrev pub PutsRow : Geometry → BankAddress → Option ℕ → Left → Left → Type 0
PutsRow g at row old new = (b : BankAddress) (was : Option ℕ) → HasBank g b → KeepsRow old b was → KeepsRow new b (if is_bank at b then row else was)

-- the banks of a rank have none, and the others the ones that they had
abbrev pub ClosesAll : Geometry → ℕ → Left → Left → Type 0
ClosesAll g rank old new = (b : BankAddress) (was : Option ℕ) → HasBank g b → KeepsRow old b was → KeepsRow new b (if rank == b.rank then None else was)

-- a rank has one REF more, at this clock
pub record PutsRef (g : Geometry) (rank clock : ℕ) (old new : Left) : Type 0 where
  pub ranks : new.ranks ≡ old.ranks
  pub asleep : new.asleep ≡ old.asleep
  pub last : (r none : ℕ) → r < g.ranks → slice_index_or new.last r none ≡ (if rank == r then clock else slice_index_or old.last r none)
  pub refs : (r none : ℕ) → r < g.ranks → slice_index_or old.refs r none < 2 ^ 64 - 1
      → slice_index_or new.refs r none ≡ (if rank == r then slice_index_or old.refs r none + 1 else slice_index_or old.refs r none)

-- a rank sleeps
pub record PutsToSleep (g : Geometry) (rank : ℕ) (old new : Left) : Type 0 where
  pub ranks : new.ranks ≡ old.ranks
  pub last : new.last ≡ old.last
  pub refs : new.refs ≡ old.refs
  pub asleep : (r : ℕ) (none : Bool) → r < g.ranks → slice_index_or new.asleep r none ≡ (if rank == r then true else slice_index_or old.asleep r none)

-- no rule on two commands asks for more clocks
abbrev pub most_asked : Timing → ℕ
most_asked t = 9 + t.t_rcd + t.t_ras + t.t_rp + t.t_rtp + t.cwl + t.t_wr + t.t_rrd_s + t.t_rrd_l + t.t_faw + t.t_ccd_s + t.t_ccd_l
    + t.t_wtr_s + t.t_wtr_l + t.t_rtw + t.t_cs + t.t_rfc
