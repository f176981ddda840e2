-- The words that most proofs of this crate cite, passed on from one place.
pub use Rattle.ddr4_timing.specs.declared.cells.BankCells.{BankCells}
pub use Rattle.ddr4_timing.specs.declared.command.Command.{Command}
pub use Rattle.ddr4_timing.specs.declared.command.Command.TheVariants.{Act, Pre, PreAll, Rd, Ref, Sre, Wr}
pub use Rattle.ddr4_timing.specs.declared.command.Stamped.{Stamped}
pub use Rattle.ddr4_timing.specs.declared.fault.Fault.{Fault}
pub use Rattle.ddr4_timing.specs.declared.timing_state.TimingState.{TimingState}
pub use Rattle.ddr4_timing.specs.declared.place.BankAddress.{BankAddress}
pub use Rattle.ddr4_timing.specs.declared.rank.RankState.{RankState}
pub use Rattle.ddr4_timing.specs.declared.rank.Refresh.{Refresh}
pub use Rattle.ddr4_timing.specs.declared.rank.Window.{Window}
pub use Rattle.ddr4_timing.specs.declared.rules.Rule.{Rule}
pub use Rattle.ddr4_timing.specs.declared.rules.Rule.TheVariants.{Ccd, Cs, Faw, Order, Ras, Rc, Rcd, Refi, Rfc, Rows, Rp, Rrd, Rtp, Rtw, Wtr}
pub use Rattle.ddr4_timing.specs.declared.timing.Checked.{Checked}
pub use Rattle.ddr4_timing.specs.declared.timing.CommandRules.{CommandRules}
pub use Rattle.ddr4_timing.specs.declared.timing.Geometry.{Geometry}
pub use Rattle.ddr4_timing.specs.declared.timing.Timing.{Timing}
pub use Rattle.ddr4_timing.specs.Command.{bank_of, is_act, is_act_of, is_ref, is_ref_of, is_sre, is_sre_of, rank_of}
pub use Rattle.ddr4_timing.specs.Demands.{Demand, TellsGaps, beyond_rank, demand_of, in_groups, in_rank}
unfoldable pub use Rattle.ddr4_timing.specs.Floors.{floor, greatest, least_clock, window}
pub use Rattle.ddr4_timing.specs.Gaps.{largest}
unfoldable pub use Rattle.ddr4_timing.specs.Gaps.{faw_gap, gap, most_gap, pair_gap}
pub use Rattle.ddr4_timing.specs.Lawful.{IsInGeometry, IsLawful, IsLawfulBy, IsLawfulIn, IsLeastFault, IsNotEarly, KeepsGap, KeepsRefresh, KeepsRows, KeepsRule, MayComeNext, ObeysRule, row_after, with_command}
unfoldable pub use Rattle.ddr4_timing.specs.Lawful.{is_asleep, last_ref, open_row, ref_count}
pub use Rattle.ddr4_timing.specs.Limits.{AreInLimits, FitsFaw, HasFewBanks, IsSmall}
pub use Rattle.ddr4_timing.specs.TimingState.{BankRises, BankStands, BanksRise, ChannelTakes, ClockRises, GroupsRise, Keeps, RankStands, RankTakes, RefreshStands, StandsFor, WindowStands}
pub use Rattle.ddr4_timing.specs.Places.{HasBank, HasSlot, is_bank, slot_of}
pub use Rattle.ddr4_timing.specs.Rows.{row_in}
pub use Rattle.ddr4_timing.specs.Rules.{every_rule, rule_number}
