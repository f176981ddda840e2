-- What each call does to a channel.
use Rattle.std.specs.Prelude.{◌≡◌, ◌≢◌, ℕ, ◌+◌, ◌<◌, ◌≤◌, ◌⊎◌, ◌^◌, Result, Ok, Err, Bool, true, false, List, [], ◌∷◌, ◌++◌, All, length, map, remove, slice_get, slice_set, slice_index_or, Option, Some, None}
use Rattle.ddr4_timing.specs.declared.command.Stamped.{Stamped}
use Rattle.ddr4_timing.specs.declared.place.Place.{Place}
use Rattle.request_notes.specs.declared.pending.Kind.{Kind}
use Rattle.request_notes.specs.declared.pending.Kind.TheVariants.{Read, Write}
use Rattle.request_notes.specs.declared.pending.Pending.{Pending}
use Rattle.frfcfs.specs.Margin.{IsIdle}
use Rattle.frfcfs.specs.Next.{IsNext}
use Rattle.frfcfs.specs.Queue.{held_by, is_held}
use Rattle.request_notes.specs.Requests.{IsEligible}
use Rattle.wpq_core.specs.declared.queue.PendingWrite.{PendingWrite}
use Rattle.wpq_core.specs.Writes.{IsFirstOfItsLine, IsNewest, NoWriteNames, TakesWrite, pending_write}
use Rattle.channel_port.specs.declared.answers.Got.{Got}
use Rattle.channel_port.specs.declared.answers.Got.TheVariants.{Now, Later}
use Rattle.channel_port.specs.declared.answers.Ticket.{Ticket}
use Rattle.channel_port.specs.declared.answers.Served.{Served}
use Rattle.channel_port.specs.declared.answers.Served.TheVariants as served
use Rattle.channel_port.specs.declared.answers.Collected.{Collected}
use Rattle.channel_port.specs.declared.answers.Collected.TheVariants as collected
use Rattle.channel_port.specs.declared.answers.Done.{Done}
use Rattle.chan_core.specs.declared.reads.ReadsFull.{ReadsFull}
use Rattle.chan_core.specs.Reads.{OpenTicket}
use Rattle.chan_core.specs.State.{ChannelState, cell_in, channel_memory, clock_of, line_at, memory_below, placed_writes}

-- a request (the scheduler calls the line that it names by its cell)
abbrev pub request : ℕ → Place → ℕ → Kind → ℕ → Bool → Pending
request seq place cell kind number held = record { seq = seq; place = place; line = cell; kind = kind; number = number; held = held }

-- a write was added behind the others
pub record AddsWrite (old : ChannelState) (number : ℕ) (place : Place) (bytes : List ℕ) (new : ChannelState) : Type 0 where
  pub seq : ℕ
  pub same : new ≡ record old {
    writes = old.writes ++ pending_write number (cell_in old place) bytes ∷ [];
    requests = old.requests ++ request seq place (cell_in old place) Write number (is_held old.hold Write number) ∷ [];
  }

-- a line of the channel's memory has these bytes now, and all others stay
abbrev pub WritesAt : ChannelState → Place → List ℕ → ChannelState → Type 0
WritesAt old place bytes new = channel_memory new ≡ slice_set (channel_memory old) (cell_in old place) bytes

-- a line of the array has these bytes now, where no request waits
abbrev pub loaded_at : ChannelState → Place → List ℕ → ChannelState
loaded_at s place bytes = record s { array = slice_set s.array (cell_in s place) bytes }

-- only the pending writes and the requests change
abbrev pub after_put : ChannelState → ChannelState → ChannelState
after_put old new = record old { writes = new.writes; requests = new.requests }

-- only the open reads and the requests change
abbrev pub after_get : ChannelState → ChannelState → ChannelState
after_get old new = record old { tickets = new.tickets; serial = new.serial; requests = new.requests }

-- as many writes as may be are pending
abbrev pub IsFullOfWrites : ChannelState → Type 0
IsFullOfWrites s = length s.writes ≡ s.depth

-- as many reads as may be are pending or not collected
abbrev pub IsFullOfReads : ChannelState → Type 0
IsFullOfReads s = length s.tickets ≡ s.most_reads

-- a read was added behind the others, which waits: it is to have its line after all accepted writes
pub record AddsRead (old : ChannelState) (place : Place) (line at : ℕ) (new : ChannelState) : Type 0 where
  pub seq : ℕ
  pub same : new ≡ record old {
    tickets = old.tickets ++ record { serial = old.serial; line = line; at = at; bytes = line_at old place; answered = false } ∷ [];
    serial = old.serial + 1;
    requests = old.requests ++ request seq place (cell_in old place) Read at false ∷ [];
  }

-- A read is refused where no further one may be open. Else it has its line after all accepted writes: at once where a pending
-- write names its cell, and where none does it waits for it.
abbrev pub AnswersGet : ChannelState → Place → ℕ → ℕ → Result Got ReadsFull → ChannelState → Type 0
AnswersGet old place line at (Err full) new = IsFullOfReads old × (new ≡ old)
AnswersGet old place line at (Ok (Now bytes)) new = (¬ IsFullOfReads old) × IsNewest (cell_in old place) old.writes (Some bytes) × (bytes ≡ line_at old place) × (new ≡ old)
AnswersGet old place line at (Ok (Later ticket)) new =
    (¬ IsFullOfReads old) × NoWriteNames (cell_in old place) old.writes × (ticket ≡ record { channel = old.channel; serial = old.serial }) × AddsRead old place line at new

-- What a ticket gives: the data of an answered read, which goes; nothing yet where the read waits; and else it is unknown.
abbrev pub AnswersCollect : ChannelState → Ticket → Collected → List OpenTicket → Type 0
AnswersCollect old ticket (collected.Data line bytes at) tickets =
    (ticket.channel ≡ old.channel) × (i : ℕ) × (slice_get old.tickets i ≡ Some (record { serial = ticket.serial; line = line; at = at; bytes = bytes; answered = true }))
    × (tickets ≡ remove old.tickets i)
AnswersCollect old ticket collected.Pending tickets =
    (ticket.channel ≡ old.channel) × (i : ℕ) × (t : OpenTicket) × (slice_get old.tickets i ≡ Some t) × (t.serial ≡ ticket.serial) × (t.answered ≡ false) × (tickets ≡ old.tickets)
AnswersCollect old ticket collected.Unknown tickets =
    (ticket.channel ≡ old.channel → (i : ℕ) (t : OpenTicket) → slice_get old.tickets i ≡ Some t → t.serial ≢ ticket.serial) × (tickets ≡ old.tickets)

-- the channel with another hold, or none
abbrev pub with_hold : ChannelState → Option ℕ → ChannelState
with_hold s hold = record s { requests = map (held_by hold) s.requests; hold = hold }

-- No read is open any more. The writes among the requests stay, in their order.
pub record LosesReads (old new : ChannelState) : Type 0 where
  pub same : new ≡ record old { tickets = []; requests = new.requests }
  pub placed : placed_writes new ≡ placed_writes old
  pub writes_only : All (λ p. p.kind ≡ Write) new.requests

-- where writes from a number on are held, the memory below that number stays
abbrev pub KeepsBelow : ChannelState → ChannelState → Type 0
KeepsBelow old new = (n : ℕ) → old.hold ≡ Some n → memory_below n new ≡ memory_below n old

-- A request's write goes into the array: the oldest pending one of its cell, which isn't held. So the memory below each
-- greater number stays.
pub record MovesWrite (old : ChannelState) (p : Pending) (number : ℕ) (new : ChannelState) : Type 0 where
  pub kind : p.kind ≡ Write
  pub named : p.number ≡ number
  pub bytes : List ℕ
  pub array : new.array ≡ slice_set old.array p.line bytes
  pub writes : TakesWrite number old.writes (Some bytes) new.writes
  pub tickets : new.tickets ≡ old.tickets
  pub first : (i : ℕ) (w : PendingWrite) → slice_get old.writes i ≡ Some w → w.number ≡ number → (w.write.line ≡ p.line) × IsFirstOfItsLine old.writes i
  pub unheld : (n : ℕ) → old.hold ≡ Some n → number < n
  pub below : (n : ℕ) → number < n → memory_below n new ≡ memory_below n old

-- a request's read has the bytes of its cell in the array, which are those that it was to have
pub record AnswersRead (old : ChannelState) (p : Pending) (ticket : Ticket) (new : ChannelState) : Type 0 where
  pub kind : p.kind ≡ Read
  pub array : new.array ≡ old.array
  pub writes : new.writes ≡ old.writes
  pub index : ℕ
  pub read : OpenTicket
  pub here : slice_get old.tickets index ≡ Some read
  pub named : ticket ≡ record { channel = old.channel; serial = read.serial }
  pub at : read.at ≡ p.number
  pub waits : read.answered ≡ false
  pub bytes : read.bytes ≡ slice_index_or old.array p.line []
  pub tickets : new.tickets ≡ slice_set old.tickets index (record read { answered = true })

-- the request is served, as it is said
abbrev pub ServesRequest : ChannelState → Pending → Served → ChannelState → Type 0
ServesRequest old p (served.Write number) new = MovesWrite old p number new
ServesRequest old p (served.Read ticket) new = AnswersRead old p ticket new

-- the eligible request at an index is served and goes
pub record ServesAt (old : ChannelState) (index : ℕ) (s : Served) (new : ChannelState) : Type 0 where
  pub p : Pending
  pub eligible : IsEligible old.requests index p
  pub serves : ServesRequest old p s new
  pub requests : new.requests ≡ remove old.requests index

-- no request is served
pub record ServesNone (old new : ChannelState) : Type 0 where
  pub array : new.array ≡ old.array
  pub writes : new.writes ≡ old.writes
  pub tickets : new.tickets ≡ old.tickets
  pub requests : new.requests ≡ old.requests

-- what a command does: a RD or WR serves the request at an index, and any other none
abbrev pub ServesIndex : Option ℕ → Option Served → ChannelState → ChannelState → Type 0
ServesIndex (Some index) (Some s) old new = ServesAt old index s new
ServesIndex (Some index) None old new = ⊥
ServesIndex None (Some s) old new = ⊥
ServesIndex None None old new = ServesNone old new

-- the parts of a channel that a command of the scheduler may change; all else stays
abbrev pub after_command : ChannelState → Stamped → ChannelState → ChannelState
after_command old command new =
    record old { array = new.array; writes = new.writes; tickets = new.tickets; requests = new.requests; commands = old.commands ++ command ∷ [] }

-- One command: the choice at the first clock from now on that has a candidate.
pub record IssuesChoice (old : ChannelState) (done : Done) (new : ChannelState) : Type 0 where
  pub index : Option ℕ
  pub chosen : IsNext old.checked old.commands old.requests (clock_of old) (Some (record { clock = done.command.clock; cmd = done.command.cmd; serves = index }))
  pub same : new ≡ after_command old done.command new
  pub serves : ServesIndex index done.served old new

-- what commands may change; all else stays
abbrev pub after_commands : ChannelState → ChannelState → ChannelState
after_commands old new = record old { array = new.array; writes = new.writes; tickets = new.tickets; requests = new.requests; commands = new.commands }

-- these commands, one after another
abbrev pub IssuesChoices : ChannelState → List Stamped → ChannelState → Type 0
IssuesChoices old [] new = new ≡ old
IssuesChoices old (x ∷ xs) new = (done : Done) × (mid : ChannelState) × IssuesChoice old done mid × (done.command ≡ x) × IssuesChoices mid xs new

-- No request is eligible and no rank is in lead now, or every rank had its SRE; or the clocks are at an end.
abbrev pub HasNothingToSend : ChannelState → Type 0
HasNothingToSend s = IsIdle s.checked s.commands s.requests (clock_of s) ⊎ (2 ^ 62 ≤ clock_of s)
