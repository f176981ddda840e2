-- The events of a read: the read, and where it has to wait the turns in which its line's channel is worked.
use Rattle.std.specs.Prelude.{◌≡◌, ◌⊎◌, ℕ, ◌<◌, ◌≤◌, List, [], ◌∷◌, ◌++◌, Result, Ok, Err, Some, None}
use Rattle.arm_state.specs.declared.refusal.ReadRefusal.{ReadRefusal}
use Rattle.channel_port.specs.declared.answers.Collected.{Collected}
use Rattle.channel_port.specs.declared.answers.Collected.TheVariants.{Data}
use Rattle.channel_port.specs.declared.answers.Got.TheVariants.{Now, Later}
use Rattle.channel_port.specs.declared.answers.Ticket.{Ticket}
use Rattle.line_memory.specs.Memory.{line_of}
use Rattle.nv_machine.specs.declared.events.Event.{Event}
use Rattle.nv_machine.specs.declared.events.Event.TheVariants as events
use Rattle.nv_machine.specs.declared.events.Reply.{Reply}
use Rattle.nv_machine.specs.declared.events.Reply.TheVariants as replies
use Rattle.nv_machine.specs.State.{Setup, Machine, memory_of}
use Rattle.nv_machine.specs.Refusals.{read_refusal}
use Rattle.nv_session.specs.ReadTurns.{IsNothing, TakesReadTurns}
use Rattle.nv_session.specs.Turns.{IsPromised, SameButWaits}
use Rattle.open_life.specs.declared.turns.LineRead.{LineRead}
use Rattle.open_life.specs.declared.turns.LineRead.TheVariants.{Content, Waiting}

-- these bytes are read, or none yet
abbrev pub IsSeen : List ℕ → LineRead → Type 0
IsSeen bytes (Content seen) = seen ≡ bytes
IsSeen bytes (Waiting ticket) = Unit {0}

-- a read is awaited until this is seen: it is what it was promised
pub record SeesPromised (ticket : Ticket) (seen : LineRead) (events : List Event) (replies : List Reply) (old new : Machine) : Type 0 where
  pub same : SameButWaits old new
  pub promised : (bytes : List ℕ) → IsPromised ticket bytes old → IsSeen bytes seen

-- a read sees its line of the memory after all accepted writes, which stays what it was
abbrev pub SeesLine : Setup → ℕ → Result LineRead ReadRefusal → List Event → List Reply → Machine → Machine → Type 0
SeesLine setup line (Ok seen) events replies old new = (read_refusal setup old line ≡ None) × IsSeen (line_of (memory_of old) line) seen × SameButWaits old new
SeesLine setup line (Err refusal) events replies old new = (read_refusal setup old line ≡ Some refusal) × (new ≡ old)

-- How a read ends behind so many turns: with the bytes that there were for its ticket; or waiting, where there was nothing for
-- it and either its channel had no command or these were all turns.
abbrev pub EndsRead : ℕ → Ticket → ℕ → LineRead → List Event → List Reply → Type 0
EndsRead most ticket turns (Content bytes) asked told =
    (line : ℕ) × (at : ℕ) × (asked ≡ events.Collect ticket ∷ []) × (told ≡ replies.Collect (Data line bytes at) ∷ [])
EndsRead most ticket turns (Waiting later) asked told =
    (later ≡ ticket) × (answer : Collected) × IsNothing answer
    × (((turns < most) × (asked ≡ events.Collect ticket ∷ events.Work ticket.channel ∷ []) × (told ≡ replies.Collect answer ∷ replies.Work None ∷ []))
    ⊎ ((turns ≡ most) × (asked ≡ events.Collect ticket ∷ []) × (told ≡ replies.Collect answer ∷ [])))

-- a ticket is awaited, so many turns at most, until this is seen
pub record IsAwaited (most : ℕ) (ticket : Ticket) (seen : LineRead) (asked : List Event) (told : List Reply) : Type 0 where
  pub turns : ℕ
  pub few : turns ≤ most
  pub before : List Event
  pub given : List Reply
  pub takes : TakesReadTurns ticket turns before given
  pub last : List Event
  pub answered : List Reply
  pub ends : EndsRead most ticket turns seen last answered
  pub asked_is : asked ≡ before ++ last
  pub told_is : told ≡ given ++ answered

-- a line is read at once
pub record IsReadNow (line : ℕ) (seen : LineRead) (asked : List Event) (told : List Reply) : Type 0 where
  pub bytes : List ℕ
  pub seen_is : seen ≡ Content bytes
  pub asked_is : asked ≡ events.Read line ∷ []
  pub told_is : told ≡ replies.Read (Ok (Now bytes)) ∷ []

-- or its ticket is awaited
pub record IsReadLater (most line : ℕ) (seen : LineRead) (asked : List Event) (told : List Reply) : Type 0 where
  pub ticket : Ticket
  pub after : List Event
  pub later : List Reply
  pub awaited : IsAwaited most ticket seen after later
  pub asked_is : asked ≡ events.Read line ∷ after
  pub told_is : told ≡ replies.Read (Ok (Later ticket)) ∷ later

-- the events of a read with this result
abbrev pub AreOfRead : ℕ → ℕ → Result LineRead ReadRefusal → List Event → List Reply → Type 0
AreOfRead most line (Ok seen) asked told = IsReadNow line seen asked told ⊎ IsReadLater most line seen asked told
AreOfRead most line (Err refusal) asked told = (asked ≡ events.Read line ∷ []) × (told ≡ replies.Read (Err refusal) ∷ [])

-- a ticket is awaited: what is seen of what it was promised, and the events that it takes
pub record AwaitsLine (most : ℕ) (ticket : Ticket) (seen : LineRead) (asked : List Event) (told : List Reply) (old new : Machine) : Type 0 where
  pub sees : SeesPromised ticket seen asked told old new
  pub are : IsAwaited most ticket seen asked told

-- a line is read: what it sees, and the events that it takes
pub record ReadsLine (most : ℕ) (setup : Setup) (line : ℕ) (result : Result LineRead ReadRefusal) (asked : List Event) (told : List Reply) (old new : Machine) : Type 0 where
  pub sees : SeesLine setup line result asked told old new
  pub are : AreOfRead most line result asked told
