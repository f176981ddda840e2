-- A channel as a port.
use Rattle.std.specs.Prelude.{◌≡◌, ◌≢◌, ℕ, ◌+◌, ◌^◌, ◌<◌, List, [], map, slice_get, slice_index_or, Option, Some, None}
use Rattle.std.specs.List.{range_with_len}
use Rattle.ddr4_timing.specs.Lawful.{IsLawful}
use Rattle.ddr4_timing.specs.Limits.{lines_of}
use Rattle.ddr4_timing.specs.declared.command.Stamped.{Stamped}
use Rattle.ddr4_timing.specs.declared.place.Place.{Place}
use Rattle.ddr4_timing.specs.declared.timing.Checked.{Checked}
use Rattle.ddr4_timing.specs.declared.timing.Geometry.{Geometry}
use Rattle.interleave_map.specs.Inverse.{IsInterleaving}
use Rattle.frfcfs.specs.Next.{IsNext}
use Rattle.wpq_core.specs.declared.queue.PendingWrite.{PendingWrite}
use Rattle.chan_core.specs.declared.phase.Phase.TheVariants.{Running, Stepping}
use Rattle.chan_core.specs.Always.{IsChannel}
use Rattle.chan_core.specs.Calls.{HasNothingToSend}
use Rattle.chan_core.specs.Reads.{OpenTicket}
use Rattle.chan_core.specs.State.{ChannelState, clock_of, stored_at}
use Rattle.drain_core.specs.Standing.{CanDrain}
use Rattle.drain_core.specs.Steps.{drained}
use Rattle.channel_port.specs.declared.stage.Stage.{Stage}
use Rattle.channel_port.specs.declared.stage.Stage.TheVariants.{Drained, OnBackup, OnMains}
use Rattle.channel_port.specs.declared.answers.Ticket.{Ticket}
use Rattle.channel_port.specs.declared.waiting.Waiting.{Waiting}
use Rattle.channel_port.specs.View.{PortView}
use Rattle.channel_set.specs.Ports.{nowhere}
use Rattle.channel_port.specs.Waits.{OpenRead, Waits, waiting}

-- a pending write and an open read of a channel
abbrev pub waiting_on : ℕ → PendingWrite → Waiting
waiting_on channel w = waiting w.number channel

abbrev pub open_on : ℕ → OpenTicket → OpenRead
open_on channel t = record { ticket = record { channel = channel; serial = t.serial }; line = t.line; bytes = t.bytes; at = t.at; answered = t.answered }

-- the ticket of a serial
abbrev pub ticket_on : ℕ → ℕ → Ticket
ticket_on channel serial = record { channel = channel; serial = serial }

-- what waits in a channel; it has given a ticket of each serial below its next one
abbrev pub waits_of : ChannelState → Waits
waits_of s = record {
  writes = map (waiting_on s.channel) s.writes;
  reads = map (open_on s.channel) s.tickets;
  given = map (ticket_on s.channel) (range_with_len 0 s.serial);
}

-- the places of a geometry's lines, by a map, and the place of a line among them
abbrev pub places_by : (ℕ → Place) → Geometry → List Place
places_by place_of g = map place_of (range_with_len 0 (lines_of g))

abbrev pub listed_place : List Place → ℕ → Place
listed_place places line = slice_index_or places line nowhere

-- a channel with the places of the memory's lines, and its stage
pub record PortState : Type 0 where
  pub places : List Place
  pub stage : Stage
  pub channel : ChannelState

abbrev pub port_state : (ℕ → Place) → Stage → ChannelState → PortState
port_state place_of stage channel = record { places = places_by place_of channel.checked.geometry; stage = stage; channel = channel }

-- as the host's lines see it
abbrev pub port_view : PortState → PortView
port_view p = record {
  number = p.channel.channel;
  checked = p.channel.checked;
  lines = lines_of p.channel.checked.geometry;
  place_of = listed_place p.places;
  depth = p.channel.depth;
  most_reads = p.channel.most_reads;
  waits = waits_of p.channel;
  hold = p.channel.hold;
  stage = p.stage;
  stored = λ line. stored_at p.channel (listed_place p.places line);
}

-- as its drain leaves it
abbrev pub drained_port : PortState → PortState
drained_port p = record p { stage = Drained; channel = drained p.channel }

-- a lawful map of this geometry
pub record HasMap (is_lawful : Type 0) (of_map g : Geometry) : Type 0 where
  pub lawful : is_lawful
  pub geometry : of_map ≡ g

-- The command that a channel sends next; none where it has nothing to send.
abbrev pub Sends : ChannelState → Option Stamped → Type 0
Sends s None = HasNothingToSend s
Sends s (Some x) =
    (¬ HasNothingToSend s)
    × (index : Option ℕ) × IsNext s.checked s.commands s.requests (clock_of s) (Some (record { clock = x.clock; cmd = x.cmd; serves = index }))

-- it is this one, and no other
pub record SendsOnly (s : ChannelState) (next : Option Stamped) : Type 0 where
  pub sends : Sends s next
  pub only : (other : Option Stamped) → Sends s other → other ≡ next

-- It runs, at a clock before 2^62, from which on it issues no further command, or a little behind that.
pub record RunsEarly (s : ChannelState) : Type 0 where
  pub running : s.phase ≡ Running
  pub early : clock_of s < 2 ^ 62 + 2 ^ 24

-- It may be drained, and no read is open.
pub record AwaitsDrain (s : ChannelState) : Type 0 where
  pub stepping : s.phase ≡ Stepping
  pub can : CanDrain s.checked s.commands

-- On mains a channel runs, as backup begins it may be drained, and no read is open from then on.
pub record IsAtStage (stage : Stage) (s : ChannelState) : Type 0 where
  pub mains : stage ≡ OnMains → RunsEarly s
  pub backup : stage ≡ OnBackup → AwaitsDrain s
  pub lost : stage ≢ OnMains → s.tickets ≡ []

-- What is always true of a port.
pub record IsRightPort (p : PortState) : Type 0 where
  pub channel : IsChannel p.channel
  pub places : IsInterleaving p.channel.checked.geometry (listed_place p.places)
  pub staged : IsAtStage p.stage p.channel

-- the lists of the first ports, so many of them, are lawful by this profile
abbrev pub AreLawful : ℕ → Checked → List PortState → Type 0
AreLawful count checked ports = (number : ℕ) (port : PortState) → number < count → slice_get ports number ≡ Some port → IsLawful checked port.channel.commands
