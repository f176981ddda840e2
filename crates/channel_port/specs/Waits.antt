-- What waits in channels: writes that aren't in an array yet, and reads that were not collected; and which tickets they gave.
use Rattle.std.specs.Prelude.{◌≡◌, ◌≢◌, ◌==◌, ℕ, ◌<◌, ◌≤◌, Bool, true, List, [], length, insert, remove, count_by, nat_le, slice_get, All, Some}
use Rattle.std.specs.List.{list_any}
use Rattle.channel_port.specs.declared.answers.Ticket.{Ticket}
use Rattle.channel_port.specs.declared.waiting.Waiting.{Waiting}

-- a read that waits, or was answered and not collected: the bytes that it has or is to have, those of its line after the
-- first `at` writes
pub record OpenRead : Type 0 where
  pub ticket : Ticket
  pub line : ℕ
  pub bytes : List ℕ
  pub at : ℕ
  pub answered : Bool

-- what waits, and all tickets that were ever given: a ticket stays among them when its read is collected or lost
pub record Waits : Type 0 where
  pub writes : List Waiting
  pub reads : List OpenRead
  pub given : List Ticket

-- nothing waits, and no ticket was given
abbrev pub nothing : Waits
nothing = record { writes = []; reads = []; given = [] }

-- nothing waits any more
abbrev pub emptied : Waits → Waits
emptied waits = record waits { writes = []; reads = [] }

abbrev pub waiting : ℕ → ℕ → Waiting
waiting number channel = record { number = number; channel = channel }

-- it stands at some place
abbrev pub Has : {X : Type 0} → X → List X → Type 0
Has x xs = (place : ℕ) × (slice_get xs place ≡ Some x)

-- it comes in at some place
abbrev pub Joins : {X : Type 0} → X → List X → List X → Type 0
Joins x old new = (place : ℕ) × (place ≤ length old) × (new ≡ insert old place x)

-- it goes from some place
abbrev pub Goes : {X : Type 0} → X → List X → List X → Type 0
Goes x old new = (place : ℕ) × (slice_get old place ≡ Some x) × (new ≡ remove old place)

-- what there is now was there before
abbrev pub Remain : {X : Type 0} → List X → List X → Type 0
Remain {X} old new = (x : X) → Has x new → Has x old

-- each write that waits has a smaller number
abbrev pub AllBelow : ℕ → List Waiting → Type 0
AllBelow number writes = All (λ w. w.number < number) writes

-- a write of this number waits
abbrev pub IsPending : ℕ → List Waiting → Type 0
IsPending number writes = list_any (λ w. w.number == number) writes ≡ true

-- no read has this ticket
abbrev pub IsNewTicket : Ticket → List OpenRead → Type 0
IsNewTicket ticket reads = All (λ r. r.ticket ≢ ticket) reads

-- this ticket isn't one of those that were given
abbrev pub IsNeverGiven : Ticket → List Ticket → Type 0
IsNeverGiven ticket given = All (λ t. t ≢ ticket) given

-- whether a write, or a read, is one of this channel
abbrev pub is_write_on : ℕ → Waiting → Bool
is_write_on channel w = w.channel == channel

abbrev pub is_read_on : ℕ → OpenRead → Bool
is_read_on channel r = r.ticket.channel == channel

-- how many of the writes that wait, and of the open reads, are those of this channel
abbrev pub writes_on : ℕ → List Waiting → ℕ
writes_on channel writes = count_by (is_write_on channel) writes

abbrev pub reads_on : ℕ → List OpenRead → ℕ
reads_on channel reads = count_by (is_read_on channel) reads

-- whether a write is one of this channel or of one before it, and how many are
abbrev pub is_write_up_to : ℕ → Waiting → Bool
is_write_up_to channel w = nat_le w.channel channel

abbrev pub writes_up_to : ℕ → List Waiting → ℕ
writes_up_to channel writes = count_by (is_write_up_to channel) writes
