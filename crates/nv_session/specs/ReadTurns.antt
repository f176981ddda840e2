-- The events of a read: the read, and where it has to wait the turns in which its line's channel is worked.
use Rattle.std.specs.Prelude.{◌≡◌, ◌⊎◌, ℕ, zero, suc, ◌<◌, ◌≤◌, List, [], ◌∷◌, ◌++◌, Result, Ok, Err, Some, None}
use Rattle.arm_state.specs.declared.refusal.ReadRefusal.{ReadRefusal}
use Rattle.channel_port.specs.declared.answers.Collected.{Collected}
use Rattle.channel_port.specs.declared.answers.Collected.TheVariants.{Data, Pending, Unknown}
use Rattle.channel_port.specs.declared.answers.Done.{Done}
use Rattle.channel_port.specs.declared.answers.Got.TheVariants.{Now, Later}
use Rattle.channel_port.specs.declared.answers.Ticket.{Ticket}
use Rattle.nv_machine.specs.declared.events.Event.{Event}
use Rattle.nv_machine.specs.declared.events.Event.TheVariants as events
use Rattle.nv_machine.specs.declared.events.Reply.{Reply}
use Rattle.nv_machine.specs.declared.events.Reply.TheVariants as replies
use Rattle.nv_machine.specs.State.{Setup, Machine}
use Rattle.nv_session.specs.declared.turns.LineSeen.{LineSeen}
use Rattle.nv_session.specs.declared.turns.LineSeen.TheVariants.{Content, Waiting}
use Rattle.nv_session.specs.Turns.{SeesLine, SeesPromised}

-- there is nothing for a ticket
abbrev pub IsNothing : Collected → Type 0
IsNothing (Data line bytes at) = ⊥
IsNothing Pending = Unit {0}
IsNothing Unknown = Unit {0}

-- A turn of a read that waits, after these events: there was nothing for its ticket, and its channel issued a command.
pub record TakesReadTurn (ticket : Ticket) (before : List Event) (given : List Reply) (asked : List Event) (told : List Reply) : Type 0 where
  pub answer : Collected
  pub nothing : IsNothing answer
  pub done : Done
  pub asked_is : asked ≡ before ++ events.Collect ticket ∷ events.Work ticket.channel ∷ []
  pub told_is : told ≡ given ++ replies.Collect answer ∷ replies.Work (Some done) ∷ []

-- so many turns
abbrev pub TakesReadTurns : Ticket → ℕ → List Event → List Reply → Type 0
TakesReadTurns ticket zero asked told = (asked ≡ []) × (told ≡ [])
TakesReadTurns ticket (suc turns) asked told =
    (before : List Event) × (given : List Reply) × TakesReadTurns ticket turns before given × TakesReadTurn ticket before given asked told

-- How a read ends behind so many turns: with the bytes that there were for its ticket; or waiting, where there was nothing for
-- it and either its channel had no command or these were all turns.
abbrev pub EndsRead : Ticket → ℕ → LineSeen → List Event → List Reply → Type 0
EndsRead ticket turns (Content bytes) asked told =
    (line : ℕ) × (at : ℕ) × (asked ≡ events.Collect ticket ∷ []) × (told ≡ replies.Collect (Data line bytes at) ∷ [])
EndsRead ticket turns Waiting asked told =
    (answer : Collected) × IsNothing answer
    × (((turns < 64) × (asked ≡ events.Collect ticket ∷ events.Work ticket.channel ∷ []) × (told ≡ replies.Collect answer ∷ replies.Work None ∷ []))
    ⊎ ((turns ≡ 64) × (asked ≡ events.Collect ticket ∷ []) × (told ≡ replies.Collect answer ∷ [])))

-- a ticket is awaited, 64 turns at most, until this is seen
pub record IsAwaited (ticket : Ticket) (seen : LineSeen) (asked : List Event) (told : List Reply) : Type 0 where
  pub turns : ℕ
  pub most : turns ≤ 64
  pub before : List Event
  pub given : List Reply
  pub takes : TakesReadTurns ticket turns before given
  pub last : List Event
  pub answered : List Reply
  pub ends : EndsRead ticket turns seen last answered
  pub asked_is : asked ≡ before ++ last
  pub told_is : told ≡ given ++ answered

-- a line is read at once
pub record IsReadNow (line : ℕ) (seen : LineSeen) (asked : List Event) (told : List Reply) : Type 0 where
  pub bytes : List ℕ
  pub seen_is : seen ≡ Content bytes
  pub asked_is : asked ≡ events.Read line ∷ []
  pub told_is : told ≡ replies.Read (Ok (Now bytes)) ∷ []

-- or its ticket is awaited
pub record IsReadLater (line : ℕ) (seen : LineSeen) (asked : List Event) (told : List Reply) : Type 0 where
  pub ticket : Ticket
  pub after : List Event
  pub later : List Reply
  pub awaited : IsAwaited ticket seen after later
  pub asked_is : asked ≡ events.Read line ∷ after
  pub told_is : told ≡ replies.Read (Ok (Later ticket)) ∷ later

-- the events of a read with this result
abbrev pub AreOfRead : ℕ → Result LineSeen ReadRefusal → List Event → List Reply → Type 0
AreOfRead line (Ok seen) asked told = IsReadNow line seen asked told ⊎ IsReadLater line seen asked told
AreOfRead line (Err refusal) asked told = (asked ≡ events.Read line ∷ []) × (told ≡ replies.Read (Err refusal) ∷ [])

-- a ticket is awaited: what is seen of what it was promised, and the events that it takes
pub record AwaitsLine (ticket : Ticket) (seen : LineSeen) (asked : List Event) (told : List Reply) (old new : Machine) : Type 0 where
  pub sees : SeesPromised ticket seen asked told old new
  pub are : IsAwaited ticket seen asked told

-- a line is read: what it sees, and the events that it takes
pub record ReadsLine (setup : Setup) (line : ℕ) (result : Result LineSeen ReadRefusal) (asked : List Event) (told : List Reply) (old new : Machine) : Type 0 where
  pub sees : SeesLine setup line result asked told old new
  pub are : AreOfRead line result asked told
