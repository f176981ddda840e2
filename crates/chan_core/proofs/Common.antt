-- The words that most proofs of this crate cite, passed on from one place.
pub use Rattle.circular_buffer.specs.Buffer.{Buffer}
pub use Rattle.line_memory.specs.Memory.{IsMemory}
pub use Rattle.ddr4_timing.specs.declared.command.Command.{Command}
pub use Rattle.ddr4_timing.specs.declared.command.Command.TheVariants.{Act, Pre, PreAll, Rd, Ref, Sre, Wr}
pub use Rattle.ddr4_timing.specs.declared.command.Stamped.{Stamped}
pub use Rattle.ddr4_timing.specs.declared.place.Place.{Place}
pub use Rattle.ddr4_timing.specs.declared.rules.Rule.TheVariants.{Order}
pub use Rattle.ddr4_timing.specs.declared.timing.Checked.{Checked}
pub use Rattle.ddr4_timing.specs.Command.{is_sre, is_sre_of, rank_of}
unfoldable pub use Rattle.ddr4_timing.specs.Floors.{least_clock}
unfoldable pub use Rattle.ddr4_timing.specs.Gaps.{gap, pair_gap}
pub use Rattle.ddr4_timing.specs.Lawful.{IsLawful, KeepsRows, with_command}
unfoldable pub use Rattle.ddr4_timing.specs.Lawful.{is_asleep, last_ref}
pub use Rattle.ddr4_timing.specs.Places.{LiesIn}
pub use Rattle.bank_core.specs.Stands.{BanksState, Stands}
pub use Rattle.frfcfs.specs.declared.next.Next.{Next}
pub use Rattle.request_notes.specs.declared.pending.Kind.{Kind}
pub use Rattle.request_notes.specs.declared.pending.Kind.TheVariants.{Read, Write}
pub use Rattle.request_notes.specs.declared.pending.Pending.{Pending}
pub use Rattle.frfcfs.specs.Candidates.{IsCandidate, OfColumn, OfRank, OfRow, Turn}
pub use Rattle.frfcfs.specs.Margin.{AreAsleep, IsIdle, KeepsMargin}
unfoldable pub use Rattle.frfcfs.specs.Margin.{last_clock}
pub use Rattle.frfcfs.specs.Next.{IsNext}
pub use Rattle.frfcfs.specs.Queue.{Waiting, held_by, is_held, is_write, numbered_from, writes_among}
pub use Rattle.request_notes.specs.Requests.{AreInOrder, IsEligible, column_of}
unfoldable pub use Rattle.interleave_map.specs.Cells.{cell_of, cells_of}
pub use Rattle.wpq_core.specs.declared.queue.PendingWrite.{PendingWrite}
pub use Rattle.wpq_core.specs.PendingMemory.{after_pending, data_or}
pub use Rattle.wpq_core.specs.Queue.{IsWriteQueue, Queue}
pub use Rattle.wpq_core.specs.Writes.{ComeBefore, IsFirstOfItsLine, IsNewest, NoWriteNames, NumbersRise, TakesWrite, pending_write}
pub use Rattle.channel_port.specs.declared.answers.Done.{Done}
pub use Rattle.channel_port.specs.declared.answers.Served.{Served}
pub use Rattle.channel_port.specs.declared.answers.Ticket.{Ticket}
pub use Rattle.chan_core.specs.declared.phase.Phase.{Phase}
pub use Rattle.chan_core.specs.declared.phase.Phase.TheVariants.{Asleep, Running, Stepping}
pub use Rattle.chan_core.specs.declared.reads.OpenRead.{OpenRead}
pub use Rattle.chan_core.specs.Always.{IsChannel, HasRightContents, SerialsRise}
pub use Rattle.chan_core.specs.Calls.{AddsRead, AddsWrite, AnswersCollect, AnswersRead, HasNothingToSend, IsFullOfReads, IssuesChoice, IssuesChoices, KeepsBelow, LosesReads, MovesWrite, ServesIndex, ServesRequest, after_command, after_commands, loaded_at, request}
pub use Rattle.chan_core.specs.Contents.{AreContents, AreOldest, Contents, IsRightRequest, LeavesWrites, ReadKey, queued_key, read_key, read_of, seen, steps_begun, waiting_key, waits_for, write_key, write_of}
pub use Rattle.chan_core.specs.Inside.{contents_of}
pub use Rattle.chan_core.specs.Phases.{AreAwake, IsInPhase}
pub use Rattle.chan_core.specs.Reads.{AnswersSeq, IsIndexOfSerial, OpenTicket, ReadsRise, answered_with, ticket_of, ticket_with}
pub use Rattle.chan_core.specs.Running.{IsRunning}
pub use Rattle.chan_core.specs.Singles.{FitsOldest, IsEarliest, IssuesAlone, writes_by}
pub use Rattle.chan_core.specs.State.{ChannelState, cell_in, channel_memory, clock_of, last_commands, line_at, memory_below, placed, placed_write}
