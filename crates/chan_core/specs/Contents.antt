-- What a channel keeps for its calls, and what is always true of it.
use Rattle.std.specs.Prelude.{◌≡◌, ◌≢◌, ℕ, ◌+◌, ◌*◌, ◌<◌, ◌≤◌, List, [], ◌∷◌, All, length, map, slice_get, Option, Some, None}
use Rattle.std.specs.List.{filter_map}
use Rattle.line_memory.specs.Memory.{IsMemory}
use Rattle.ddr4_timing.specs.declared.command.Stamped.{Stamped}
use Rattle.ddr4_timing.specs.declared.timing.Checked.{Checked}
use Rattle.ddr4_timing.specs.declared.timing.Geometry.{Geometry}
use Rattle.ddr4_timing.specs.Places.{LiesIn}
use Rattle.request_notes.specs.declared.pending.Kind.{Kind}
use Rattle.request_notes.specs.declared.pending.Kind.TheVariants.{Read, Write}
use Rattle.request_notes.specs.declared.pending.Pending.{Pending}
use Rattle.frfcfs.specs.Queue.{Waiting, is_held, numbered_from, writes_among}
use Rattle.line_memory.specs.declared.line.TheConstants.{LINE_BYTES}
use Rattle.wpq_core.specs.declared.queue.PendingWrite.{PendingWrite}
use Rattle.wpq_core.specs.Queue.{Queue, IsWriteQueue}
use Rattle.chan_core.specs.declared.phase.Phase.{Phase}
use Rattle.chan_core.specs.declared.phase.Phase.TheVariants.{Running}
use Rattle.chan_core.specs.declared.reads.OpenRead.{OpenRead}
use Rattle.interleave_map.specs.Cells.{cells_of, cell_of}
use Rattle.chan_core.specs.Reads.{ReadsRise, ticket_of}
use Rattle.chan_core.specs.State.{ChannelState}

pub record Contents : Type 0 where
  pub checked : Checked
  pub channel : ℕ
  pub array : List (List ℕ)
  pub queue : Queue
  pub waiting : Waiting
  pub reads : List OpenRead
  pub most_reads : ℕ
  pub serial : ℕ
  pub hold : Option ℕ
  pub commands : List Stamped
  pub phase : Phase

-- what contracts see of it
abbrev pub seen : Contents → ChannelState
seen m = record {
  checked = m.checked;
  channel = m.channel;
  depth = m.queue.depth;
  most_reads = m.most_reads;
  array = m.array;
  writes = m.queue.writes;
  tickets = map (ticket_of m.array) m.reads;
  serial = m.serial;
  requests = m.waiting.requests;
  hold = m.hold;
  commands = m.commands;
  phase = m.phase;
}

-- a write among the requests: its number and its cell
abbrev pub write_of : Kind → ℕ → ℕ → Option (ℕ × ℕ)
write_of Write number cell = Some (number, cell)
write_of Read number cell = None

abbrev pub write_key : Pending → Option (ℕ × ℕ)
write_key p = write_of p.kind p.number p.line

abbrev pub queued_key : PendingWrite → ℕ × ℕ
queued_key w = (w.number, w.write.line)

-- what a read that waits is known by: its request's seq, its cell, and how many writes came before it
pub record ReadKey : Type 0 where
  pub seq : ℕ
  pub cell : ℕ
  pub at : ℕ

-- a read among the requests
abbrev pub read_of : Kind → ReadKey → Option ReadKey
read_of Read key = Some key
read_of Write key = None

abbrev pub read_key : Pending → Option ReadKey
read_key p = read_of p.kind (record { seq = p.seq; cell = p.line; at = p.number })

-- an open read that waits
abbrev pub waits_for : Option (List ℕ) → ReadKey → Option ReadKey
waits_for None key = Some key
waits_for (Some bytes) key = None

abbrev pub waiting_key : OpenRead → Option ReadKey
waiting_key read = waits_for read.bytes (record { seq = read.seq; cell = read.cell; at = read.at })

-- what is right of each request
pub record IsRightRequest (g : Geometry) (number : ℕ) (hold : Option ℕ) (p : Pending) : Type 0 where
  pub lies : LiesIn g p.place
  pub channel : p.place.channel ≡ number
  pub cell : cell_of g p.place ≡ p.line
  pub held : p.held ≡ is_held hold p.kind p.number

-- whether the scheduler's commands are at an end
abbrev pub steps_begun : Phase → ℕ
steps_begun Running = 0
steps_begun phase = 1

-- What is always true of a channel's contents. The writes among the requests are those of the queue, and the reads among
-- them are the open ones that wait, each in their order; no read is behind a write of its cell, since that would have
-- answered it. Neither the serials nor the seqs run ahead of the commands.
pub record AreContents (s : Contents) : Type 0 where
  pub array : IsMemory (cells_of s.checked.geometry) s.array
  pub queue : IsWriteQueue s.queue
  pub room : s.waiting.most ≡ s.queue.depth + s.most_reads
  pub right : All (IsRightRequest s.checked.geometry s.channel s.hold) s.waiting.requests
  pub writes : filter_map write_key s.waiting.requests ≡ map queued_key s.queue.writes
  pub unanswered : filter_map read_key s.waiting.requests ≡ filter_map waiting_key s.reads
  pub reads : ReadsRise s.serial s.waiting.next s.reads
  pub few_reads : length s.reads ≤ s.most_reads
  pub most : s.most_reads ≤ 64
  pub clear : (i j : ℕ) (w r : Pending) → i < j → slice_get s.waiting.requests i ≡ Some w → slice_get s.waiting.requests j ≡ Some r → w.kind ≡ Write → r.kind ≡ Read → w.line ≢ r.line
  pub few_seqs : s.waiting.next ≤ length s.waiting.requests + length s.commands
  pub few_serials : s.serial ≤ length s.waiting.requests + 128 * (length s.commands + steps_begun s.phase)

-- a pending write has this number
abbrev pub HasWriteNumbered : ℕ → List PendingWrite → Type 0
HasWriteNumbered number writes = (i : ℕ) × (w : PendingWrite) × (slice_get writes i ≡ Some w) × (w.number ≡ number)

-- each line has its 64 bytes
abbrev pub AreWhole : List (List ℕ) → Type 0
AreWhole lines = All (λ line. length line ≡ LINE_BYTES) lines

-- Where reads were open, the writes alone are left of the requests, numbered anew.
abbrev pub LeavesWrites : List OpenRead → Waiting → Waiting → Type 0
LeavesWrites [] old new = new ≡ old
LeavesWrites (read ∷ reads) old new = (new.requests ≡ numbered_from 0 (writes_among old.requests)) × (new.next ≡ length new.requests) × (new.most ≡ old.most)

-- the first request is the oldest pending write's, and its cell is one of so many
pub record AreOldest (cells : ℕ) (writes : List PendingWrite) (requests : List Pending) : Type 0 where
  pub p : Pending
  pub w : PendingWrite
  pub request : slice_get requests 0 ≡ Some p
  pub write : slice_get writes 0 ≡ Some w
  pub number : w.number ≡ p.number
  pub cell : w.write.line ≡ p.line
  pub within : p.line < cells
