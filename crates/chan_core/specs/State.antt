-- What contracts see of a channel.
use Rattle.std.specs.Prelude.{ℕ, ◌-◌, ◌/◌, List, [], drop, filter, length, nat_lt, slice_index_or, Option, Some, None}
use Rattle.std.specs.List.{filter_map}
use Rattle.ddr4_timing.specs.declared.command.Stamped.{Stamped}
use Rattle.ddr4_timing.specs.declared.place.Place.{Place}
use Rattle.ddr4_timing.specs.declared.timing.Checked.{Checked}
use Rattle.ddr4_timing.specs.Lawful.{ref_count}
use Rattle.request_notes.specs.declared.pending.Kind.{Kind}
use Rattle.request_notes.specs.declared.pending.Kind.TheVariants.{Read, Write}
use Rattle.request_notes.specs.declared.pending.Pending.{Pending}
use Rattle.frfcfs.specs.Margin.{last_clock}
use Rattle.wpq_core.specs.declared.queue.PendingWrite.{PendingWrite}
use Rattle.wpq_core.specs.PendingMemory.{after_pending}
use Rattle.interleave_map.specs.Cells.{cell_of}
use Rattle.chan_core.specs.declared.phase.Phase.{Phase}
use Rattle.chan_core.specs.declared.phase.Phase.TheVariants.{Running}
use Rattle.chan_core.specs.Reads.{OpenTicket}

pub record ChannelState : Type 0 where
  pub checked : Checked
  -- its number in the geometry
  pub channel : ℕ
  -- how many writes may be pending, and how many reads open
  pub depth : ℕ
  pub most_reads : ℕ
  -- its lines by their cells, and the writes that aren't among them yet, in the order of their numbers (their lines are cells too)
  pub array : List (List ℕ)
  pub writes : List PendingWrite
  -- the reads that were accepted and not collected, and the serial of the next one that waits
  pub tickets : List OpenTicket
  pub serial : ℕ
  -- the requests that wait for their commands, in order of arrival
  pub requests : List Pending
  -- the writes that are held have this number or a greater one
  pub hold : Option ℕ
  -- all commands that it has issued, and by whom
  pub commands : List Stamped
  pub phase : Phase

-- the lines of the channel after all accepted writes
abbrev pub channel_memory : ChannelState → List (List ℕ)
channel_memory s = after_pending s.array s.writes

-- the lines of the channel after the accepted writes below a number
abbrev pub memory_below : ℕ → ChannelState → List (List ℕ)
memory_below n s = after_pending s.array (filter (λ w. nat_lt w.number n) s.writes)

-- the cell of a place of the channel
abbrev pub cell_in : ChannelState → Place → ℕ
cell_in s place = cell_of s.checked.geometry place

-- the line at a place of the channel, after all accepted writes
abbrev pub line_at : ChannelState → Place → List ℕ
line_at s place = slice_index_or (channel_memory s) (cell_in s place) []

-- the line at a place of the channel, without the pending writes
abbrev pub stored_at : ChannelState → Place → List ℕ
stored_at s place = slice_index_or s.array (cell_in s place) []

-- a write among the requests, by its number and its place
abbrev pub placed : Kind → ℕ × Place → Option (ℕ × Place)
placed Write w = Some w
placed Read w = None

abbrev pub placed_write : Pending → Option (ℕ × Place)
placed_write p = placed p.kind (p.number, p.place)

-- the pending writes by their numbers and their places, oldest first
abbrev pub placed_writes : ChannelState → List (ℕ × Place)
placed_writes s = filter_map placed_write s.requests

-- the channel's clock: that of its last command, 0 where there was none
abbrev pub clock_of : ChannelState → ℕ
clock_of s = last_clock s.commands

-- how many REF a rank owes at a clock: one for each interval that has passed, less those issued
abbrev pub owed_at : ChannelState → ℕ → ℕ → ℕ
owed_at s rank clock = clock / s.checked.timing.t_refi - ref_count rank s.commands

-- the last 64 commands
abbrev pub last_commands : List Stamped → List Stamped
last_commands commands = drop (length commands - 64) commands

-- a channel of these cells' lines, before any command
abbrev pub new_channel : Checked → ℕ → List (List ℕ) → ℕ → ℕ → ChannelState
new_channel checked channel array depth most_reads = record {
  checked = checked;
  channel = channel;
  depth = depth;
  most_reads = most_reads;
  array = array;
  writes = [];
  tickets = [];
  serial = 0;
  requests = [];
  hold = None;
  commands = [];
  phase = Running;
}
