-- The words that most proofs of this crate cite, passed on from one place.
pub use Rattle.std.specs.Prelude.{Err, IfNone, IfSome, None, Ok, OnOk, Option, Result, Some, length, replicate, slice_get, ℕ, ◌≡◌, ◌≤◌}
pub use Rattle.std.proofs.lemmas.Bool.{cases_order, eqb-true, le-ltb, lt-ltb}
pub use Rattle.std.proofs.lemmas.List.{append-nil, drop-map, length-append, length-map, map-append}
pub use Rattle.line_memory.specs.declared.parts.Numbered.{Numbered}
pub use Rattle.line_memory.specs.Memory.{after, after_write, line_of}
pub use Rattle.ddr4_timing.specs.declared.place.Place.{Place}
pub use Rattle.ddr4_timing.specs.declared.timing.Checked.{Checked}
pub use Rattle.ddr4_timing.specs.declared.timing.Geometry.{Geometry}
pub use Rattle.ddr4_timing.specs.Limits.{IsGeometry, IsSmall}
unfoldable pub use Rattle.ddr4_timing.specs.Limits.{lines_of}
pub use Rattle.interleave_map.specs.Inverse.{IsInterleaving}
pub use Rattle.wpq_core.specs.declared.queue.PendingWrite.{PendingWrite}
pub use Rattle.energy_budget.specs.declared.costs.Costs.{Costs}
pub use Rattle.channel_port.specs.declared.answers.Done.{Done}
pub use Rattle.channel_port.specs.Carried.{KeepsCarried, NoneBelow, WaitFrom}
pub use Rattle.channel_port.specs.Waits.{AllBelow, Has, IsNeverGiven, IsNewTicket, IsPending, OpenRead, Waits, nothing, waiting}
pub use Rattle.chan_core.specs.Always.{HasRightContents, IsChannel}
pub use Rattle.chan_core.specs.Calls.{AddsWrite, AnswersCollect, AnswersGet, HasNothingToSend, IssuesChoice, LosesReads, MovesWrite, ServesIndex, ServesRequest, WritesAt, after_command, after_get, loaded_at, with_hold}
pub use Rattle.chan_core.specs.Mapped.{IsPlaceOn, LiesOn}
pub use Rattle.chan_core.specs.State.{ChannelState, cell_in, channel_memory, clock_of, line_at, memory_below, new_channel, stored_at}
pub use Rattle.chan_core.proofs.Taken.{appended, before_removal, map-remove}
pub use Rattle.ddr4_port.specs.Carrying.{Carries, line_below}
pub use Rattle.ddr4_port.specs.Memory.{AreUnused, BeginsWith, HoldsFirst, IsFresh, IsUnused, shape_over}
pub use Rattle.ddr4_port.specs.Port.{HasMap, IsAtStage, IsRightPort, PortState, RunsEarly, Sends, SendsOnly, drained_port, listed_place, open_on, places_by, port_state, port_view, ticket_on, waiting_on, waits_of}
