-- The words that most proofs of this crate cite, passed on from one place.
pub use Rattle.std.specs.Prelude.{All, Err, IsErr, None, Ok, Result, count_by, fold, is_some, max, nat_lt, ◌&&◌, ◌==◌, ◌||◌}
pub use Rattle.std.proofs.lemmas.Bool.{and_parts, cases_Bool, cases_lt, eq-eqb, eqb-true, ltb-false, ltb-true, ne_eqb, or_cases, or_left, or_parts, or_right}
pub use Rattle.std.proofs.lemmas.List.{append-nil, length-drop, length-map, nil_from_length}
pub use Rattle.ddr4_timing.specs.declared.command.Command.{Command}
pub use Rattle.ddr4_timing.specs.declared.command.Command.TheVariants.{Act, Pre, PreAll, Rd, Ref, Sre, Wr}
pub use Rattle.ddr4_timing.specs.declared.command.Stamped.{Stamped}
pub use Rattle.ddr4_timing.specs.declared.place.BankAddress.{BankAddress}
pub use Rattle.ddr4_timing.specs.declared.place.Place.{Place}
pub use Rattle.ddr4_timing.specs.declared.timing.Checked.{Checked}
pub use Rattle.ddr4_timing.specs.declared.timing.Geometry.{Geometry}
pub use Rattle.ddr4_timing.specs.declared.timing.Timing.{Timing}
pub use Rattle.ddr4_timing.specs.Command.{bank_of, is_act_of, is_ref, is_ref_of, is_sre_of, rank_of}
unfoldable pub use Rattle.ddr4_timing.specs.Floors.{floor, greatest, least_clock, window}
unfoldable pub use Rattle.ddr4_timing.specs.Gaps.{most_gap, pair_gap}
pub use Rattle.ddr4_timing.specs.Lawful.{AllClosed, IsLawful, KeepsRows, row_after, with_command}
unfoldable pub use Rattle.ddr4_timing.specs.Lawful.{is_asleep, last_ref, open_row, ref_count}
pub use Rattle.ddr4_timing.specs.Limits.{close_of, entry_of}
unfoldable pub use Rattle.ddr4_timing.specs.Limits.{lines_of}
pub use Rattle.ddr4_timing.specs.Places.{HasBank, LiesIn, bank_at, is_bank, is_group}
pub use Rattle.ddr4_timing.proofs.Bounds.{cond-le, most_gap-PreAll, most_gap-Ref_other, most_gap-close}
pub use Rattle.ddr4_timing.proofs.FloorLemmas.{floor_push, greatest_push, is_asleep_push, last_ref_push, open_row_push}
pub use Rattle.frfcfs.specs.Margin.{AreAsleep, KeepsMargin, row_time}
unfoldable pub use Rattle.frfcfs.specs.Margin.{last_clock}
pub use Rattle.energy_budget.specs.declared.costs.CostNumbers.{CostNumbers}
pub use Rattle.chan_core.specs.Phases.{AreAwake}
pub use Rattle.chan_core.specs.Singles.{FitsOldest, IsEarliest, writes_by}
pub use Rattle.chan_core.specs.State.{ChannelState, channel_memory, last_commands, placed, placed_write, placed_writes}
pub use Rattle.drain_core.specs.declared.steps.StepEnd.{StepEnd}
pub use Rattle.drain_core.specs.Drain.{close_rank, for_each_rank}
unfoldable pub use Rattle.drain_core.specs.Drain.{has_open_bank, owes_refresh, rest_clock}
pub use Rattle.drain_core.specs.Standing.{AfterClose, AfterDrain, AfterEntries, AfterSleep, AreClosed, CanDrain, HaveClocks, IsBetweenSteps}
pub use Rattle.drain_core.specs.Steps.{EntersOldest, GoesNext, GoesTo, IsEarly, IsStepped, IssuesFor, MayEnter, MayGo, TakesOldest, clocks_of, closed_by, commands_cost, drain_of_channel, drain_start_of, drained, entered_by, most_clocks, pending_places, progress_of, spent_by}
