-- The words that most proofs of this crate cite, passed on from one place.
pub use Rattle.ddr4_timing.specs.declared.command.Command.{Command}
pub use Rattle.ddr4_timing.specs.declared.command.Command.TheVariants.{Act, Pre, PreAll, Rd, Ref, Sre, Wr}
pub use Rattle.ddr4_timing.specs.declared.command.Stamped.{Stamped}
pub use Rattle.ddr4_timing.specs.declared.place.BankAddress.{BankAddress}
pub use Rattle.ddr4_timing.specs.declared.rank.RankState.{RankState}
pub use Rattle.ddr4_timing.specs.declared.timing.Geometry.{Geometry}
pub use Rattle.ddr4_timing.specs.declared.timing.Timing.{Timing}
pub use Rattle.ddr4_timing.specs.declared.timing_state.TimingState.{TimingState}
pub use Rattle.ddr4_timing.specs.Command.{is_act, is_ref, is_ref_of, rank_of}
unfoldable pub use Rattle.ddr4_timing.specs.Floors.{floor, least_clock, window}
pub use Rattle.ddr4_timing.specs.Lawful.{AllClosed, FitsRows, IsInGeometry, IsLawfulIn, KeepsRows, with_command}
unfoldable pub use Rattle.ddr4_timing.specs.Lawful.{is_asleep, last_ref, open_row, ref_count}
pub use Rattle.ddr4_timing.specs.Limits.{AreInLimits}
pub use Rattle.ddr4_timing.specs.TimingState.{BankStands, RankStands, StandsFor}
pub use Rattle.ddr4_timing.specs.Places.{HasBank, slot_of}
pub use Rattle.bank_core.specs.Stands.{AllowsBy, AllowsIn, BanksState}
