-- What a command asks of later ones, by what they share.
use Rattle.std.specs.Prelude.{◌≡◌, ℕ, ◌+◌, max, ◌==◌, if◌then◌else◌}
use Rattle.ddr4_timing.specs.declared.place.BankAddress.{BankAddress}
use Rattle.ddr4_timing.specs.declared.command.Command.{Command}
use Rattle.ddr4_timing.specs.declared.command.Command.TheVariants.{Act, Rd, Wr, Pre, PreAll, Ref, Sre}
use Rattle.ddr4_timing.specs.declared.timing.Timing.{Timing}
use Rattle.ddr4_timing.specs.Command.{bank_of, rank_of}
use Rattle.ddr4_timing.specs.Gaps.{most_gap}
use Rattle.ddr4_timing.specs.Places.{is_group, is_bank}

-- Gaps to the later commands, 0 where nothing is asked: to those of the command's bank; to those of its group and of the other
-- groups of its rank; to those of its rank, where `idle` is a REF or SRE; to a RD or WR of another rank; and to any WR.
pub record Demand : Type 0 where
  pub bank_act : ℕ
  pub bank_column : ℕ
  pub bank_pre : ℕ
  pub near_act : ℕ
  pub near_rd : ℕ
  pub near_wr : ℕ
  pub far_act : ℕ
  pub far_rd : ℕ
  pub far_wr : ℕ
  pub rank_act : ℕ
  pub rank_pre_all : ℕ
  pub rank_idle : ℕ
  pub beyond : ℕ
  pub write : ℕ

abbrev pub no_demand : Demand
no_demand = record {
  bank_act = 0;
  bank_column = 0;
  bank_pre = 0;
  near_act = 0;
  near_rd = 0;
  near_wr = 0;
  far_act = 0;
  far_rd = 0;
  far_wr = 0;
  rank_act = 0;
  rank_pre_all = 0;
  rank_idle = 0;
  beyond = 0;
  write = 0;
}

abbrev pub demand_of : Timing → Command → Demand
demand_of t (Act at row) = record no_demand {
  bank_act = t.t_ras + t.t_rp;
  bank_column = t.t_rcd;
  bank_pre = t.t_ras;
  near_act = t.t_rrd_l;
  far_act = t.t_rrd_s;
  rank_pre_all = t.t_ras;
}
demand_of t (Rd at column) = record no_demand {
  bank_pre = t.t_rtp;
  near_rd = t.t_ccd_l;
  far_rd = t.t_ccd_s;
  rank_pre_all = t.t_rtp;
  beyond = 4 + t.t_cs;
  write = t.t_rtw;
}
demand_of t (Wr at column) = record no_demand {
  bank_pre = t.cwl + 4 + t.t_wr;
  near_rd = t.cwl + 4 + t.t_wtr_l;
  far_rd = t.cwl + 4 + t.t_wtr_s;
  near_wr = t.t_ccd_l;
  far_wr = t.t_ccd_s;
  rank_pre_all = t.cwl + 4 + t.t_wr;
  beyond = 4 + t.t_cs;
}
demand_of t (Pre at) = record no_demand { bank_act = t.t_rp; rank_idle = t.t_rp }
demand_of t (PreAll rank) = record no_demand { rank_act = t.t_rp; rank_idle = t.t_rp }
demand_of t (Ref rank) = record no_demand { rank_act = t.t_rfc; rank_idle = t.t_rfc }
demand_of t (Sre rank) = no_demand

-- a gap to the commands of a command's bank
abbrev pub in_bank : Command → BankAddress → ℕ → ℕ
in_bank a at gap = if is_bank (bank_of a) at then gap else 0

-- two gaps to the commands of a command's rank, in its group and in the others
abbrev pub in_groups : Command → BankAddress → ℕ → ℕ → ℕ
in_groups a at near far = if rank_of a == at.rank then (if is_group (bank_of a) at then near else far) else 0

-- a gap to the commands of a command's rank, and one to those of the other ranks
abbrev pub in_rank : Command → ℕ → ℕ → ℕ
in_rank a rank gap = if rank_of a == rank then gap else 0

abbrev pub beyond_rank : Command → ℕ → ℕ → ℕ
beyond_rank a rank gap = if rank_of a == rank then 0 else gap

-- The gaps from the command to each later one, of which none is below 1.
pub record TellsGaps (t : Timing) (a : Command) (d : Demand) : Type 0 where
  pub act : (at : BankAddress) (row : ℕ) → most_gap t a (Act at row) ≡
      max 1 (max (in_bank a at d.bank_act) (max (in_groups a at d.near_act d.far_act) (in_rank a at.rank d.rank_act)))
  pub rd : (at : BankAddress) (column : ℕ) → most_gap t a (Rd at column) ≡
      max 1 (max (beyond_rank a at.rank d.beyond) (max (in_bank a at d.bank_column) (in_groups a at d.near_rd d.far_rd)))
  pub wr : (at : BankAddress) (column : ℕ) → most_gap t a (Wr at column) ≡
      max 1 (max (beyond_rank a at.rank d.beyond) (max d.write (max (in_bank a at d.bank_column) (in_groups a at d.near_wr d.far_wr))))
  pub pre : (at : BankAddress) → most_gap t a (Pre at) ≡ max 1 (in_bank a at d.bank_pre)
  pub pre_all : (rank : ℕ) → most_gap t a (PreAll rank) ≡ max 1 (in_rank a rank d.rank_pre_all)
  pub refresh : (rank : ℕ) → most_gap t a (Ref rank) ≡ max 1 (in_rank a rank d.rank_idle)
  pub sleep : (rank : ℕ) → most_gap t a (Sre rank) ≡ max 1 (in_rank a rank d.rank_idle)
