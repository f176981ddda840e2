-- What the calls of a channel answer, and what they change of what waits.
use Rattle.std.specs.Prelude.{◌≡◌, ℕ, ◌<◌, Bool, true, false, List, insert, slice_get, slice_set, Option, Some, None}
use Rattle.channel_port.specs.declared.answers.Ticket.{Ticket}
use Rattle.channel_port.specs.declared.answers.Got.{Got}
use Rattle.channel_port.specs.declared.answers.Got.TheVariants.{Now, Later}
use Rattle.channel_port.specs.declared.answers.Collected.{Collected}
use Rattle.channel_port.specs.declared.answers.Collected.TheVariants.{Data, Pending, Unknown}
use Rattle.channel_port.specs.declared.answers.Served.{Served}
use Rattle.channel_port.specs.declared.answers.Served.TheVariants as served
use Rattle.channel_port.specs.Waits.{OpenRead, Waits, Has, Joins, Goes, IsNewTicket, IsNeverGiven, waiting, writes_up_to}

-- the read that a ticket stands for
abbrev pub open_read : Ticket → ℕ → List ℕ → ℕ → Bool → OpenRead
open_read ticket line bytes at answered = record { ticket = ticket; line = line; bytes = bytes; at = at; answered = answered }

-- A write of this number, of a line of this channel, waits behind those of the channel and of all channels before it. So writes
-- wait channel by channel, and in each the oldest first.
pub record Puts (number channel : ℕ) (old new : Waits) : Type 0 where
  pub joins : new.writes ≡ insert old.writes (writes_up_to channel old.writes) (waiting number channel)
  pub reads : new.reads ≡ old.reads
  pub given : new.given ≡ old.given

-- a read of a line with these bytes, at once or by a ticket of its channel that was never given before
abbrev pub IsGot : List ℕ → ℕ → ℕ → ℕ → Got → Waits → Waits → Type 0
IsGot bytes line at channel (Now given) old new = (given ≡ bytes) × (new ≡ old)
IsGot bytes line at channel (Later ticket) old new =
    (ticket.channel ≡ channel) × IsNewTicket ticket old.reads
    × Joins (open_read ticket line bytes at false) old.reads new.reads × (new.writes ≡ old.writes)
    × IsNeverGiven ticket old.given × Joins ticket old.given new.given

-- a ticket gives what its read was to have once it was answered, and goes
abbrev pub IsCollected : Ticket → Collected → Waits → Waits → Type 0
IsCollected ticket (Data line bytes at) old new =
    Goes (open_read ticket line bytes at true) old.reads new.reads × (new.writes ≡ old.writes) × (new.given ≡ old.given)
IsCollected ticket Pending old new =
    (read : OpenRead) × Has read old.reads × (read.ticket ≡ ticket) × (read.answered ≡ false) × (new ≡ old)
IsCollected ticket Unknown old new = IsNewTicket ticket old.reads × (new ≡ old)

-- a number below the hold, where there is one
abbrev pub IsBelowHold : Option ℕ → ℕ → Type 0
IsBelowHold None number = Unit {0}
IsBelowHold (Some hold) number = number < hold

-- a write of this channel is in its array now, one below the hold
pub record Lands (hold : Option ℕ) (channel number : ℕ) (old new : Waits) : Type 0 where
  pub goes : Goes (waiting number channel) old.writes new.writes
  pub unheld : IsBelowHold hold number
  pub reads : new.reads ≡ old.reads
  pub given : new.given ≡ old.given

-- a read of this channel has its bytes now
pub record IsAnswered (channel : ℕ) (ticket : Ticket) (old new : Waits) : Type 0 where
  pub read : OpenRead
  pub place : ℕ
  pub stands : slice_get old.reads place ≡ Some read
  pub named : read.ticket ≡ ticket
  pub waited : read.answered ≡ false
  pub here : ticket.channel ≡ channel
  pub reads : new.reads ≡ slice_set old.reads place (record read { answered = true })
  pub writes : new.writes ≡ old.writes
  pub given : new.given ≡ old.given

-- what a command of a channel changes of what waits
abbrev pub IsServed : Option ℕ → ℕ → Option Served → Waits → Waits → Type 0
IsServed hold channel None old new = new ≡ old
IsServed hold channel (Some (served.Write number)) old new = Lands hold channel number old new
IsServed hold channel (Some (served.Read ticket)) old new = IsAnswered channel ticket old new
