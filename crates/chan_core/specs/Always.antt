-- What is true of every channel.
use Rattle.std.specs.Prelude.{◌≡◌, ℕ, ◌<◌, ◌≤◌, ◌^◌, List, All, AllPairs, length, map}
use Rattle.std.specs.List.{filter_map}
use Rattle.line_memory.specs.Memory.{IsMemory}
use Rattle.ddr4_timing.specs.Lawful.{IsLawful}
use Rattle.request_notes.specs.Requests.{AreInOrder}
use Rattle.wpq_core.specs.Queue.{IsWriteQueue}
use Rattle.interleave_map.specs.Cells.{cells_of}
use Rattle.chan_core.specs.Reads.{OpenTicket}
use Rattle.chan_core.specs.Contents.{IsRightRequest, queued_key, write_key}
use Rattle.chan_core.specs.State.{ChannelState, clock_of}
use Rattle.chan_core.specs.Phases.{IsInPhase}

-- serials rise, below the next one
pub record SerialsRise (next : ℕ) (tickets : List OpenTicket) : Type 0 where
  pub rise : AllPairs (λ t u. t.serial < u.serial) tickets
  pub below : All (λ t. t.serial < next) tickets

-- What waits in it and what its array has. The writes among the requests are the pending ones, in their order.
pub record HasRightContents (s : ChannelState) : Type 0 where
  pub array : IsMemory (cells_of s.checked.geometry) s.array
  pub writes : IsWriteQueue (record { depth = s.depth; writes = s.writes })
  pub cells : All (λ w. w.write.line < cells_of s.checked.geometry) s.writes
  pub order : AreInOrder s.requests
  pub right : All (IsRightRequest s.checked.geometry s.channel s.hold) s.requests
  pub queued : filter_map write_key s.requests ≡ map queued_key s.writes
  pub serials : SerialsRise s.serial s.tickets
  pub few_tickets : length s.tickets ≤ s.most_reads
  pub most_reads : s.most_reads ≤ 64

-- Its list of commands is lawful, its clock below 2^63, and its phase says what it may.
pub record IsChannel (s : ChannelState) : Type 0 where
  pub contents : HasRightContents s
  pub lawful : IsLawful s.checked s.commands
  pub early : clock_of s < 2 ^ 63
  pub phase : IsInPhase s
