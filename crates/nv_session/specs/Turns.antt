-- What is told of a read that is awaited, and of the steps of a save.
use Rattle.std.specs.Prelude.{◌≡◌, ◌≢◌, ◌⊎◌, ℕ, List, [], ◌∷◌, ◌++◌, All, false, Result, Ok, Err, Some, None}
use Rattle.slot_store.specs.Rest.{only}
use Rattle.arm_state.specs.declared.refusal.ArmRefusal.{ArmRefusal}
use Rattle.arm_state.specs.Modes.{is_armed}
use Rattle.channel_port.specs.declared.answers.Ticket.{Ticket}
use Rattle.line_memory.specs.Memory.{line_of}
use Rattle.nv_machine.specs.declared.events.Event.{Event}
use Rattle.nv_machine.specs.declared.events.Event.TheVariants as events
use Rattle.nv_machine.specs.declared.events.Reply.{Reply}
use Rattle.nv_machine.specs.declared.events.Reply.TheVariants as replies
use Rattle.arm_state.specs.declared.refusal.ReadRefusal.{ReadRefusal}
use Rattle.nv_machine.specs.declared.events.StepReply.{StepReply}
use Rattle.nv_machine.specs.declared.events.StepReply.TheVariants as step
use Rattle.nv_machine.specs.State.{Setup, Machine, memory_of, memory_after, newest_of}
use Rattle.nv_machine.specs.Refusals.{read_refusal}
use Rattle.nv_session.specs.declared.turns.LineSeen.{LineSeen}
use Rattle.nv_session.specs.declared.turns.LineSeen.TheVariants.{Content, Waiting}

-- nothing has changed but what waits
abbrev pub SameButWaits : Machine → Machine → Type 0
SameButWaits old new = new ≡ record old { waits = new.waits }

-- an open read of this ticket has these bytes, or is to have them
abbrev pub IsPromised : Ticket → List ℕ → Machine → Type 0
IsPromised ticket bytes m = All (λ r. r.ticket ≡ ticket → r.bytes ≡ bytes) m.waits.reads

-- these bytes are seen, or none yet
abbrev pub IsSeen : List ℕ → LineSeen → Type 0
IsSeen bytes (Content seen) = seen ≡ bytes
IsSeen bytes Waiting = Unit {0}

-- a read is awaited, and what it was promised stays so
pub record AwaitsRead (ticket : Ticket) (events : List Event) (replies : List Reply) (old new : Machine) : Type 0 where
  pub same : SameButWaits old new
  pub keeps : (bytes : List ℕ) → IsPromised ticket bytes old → IsPromised ticket bytes new

-- the same, until this is seen
pub record SeesPromised (ticket : Ticket) (seen : LineSeen) (events : List Event) (replies : List Reply) (old new : Machine) : Type 0 where
  pub same : SameButWaits old new
  pub promised : (bytes : List ℕ) → IsPromised ticket bytes old → IsSeen bytes seen

-- a read sees its line of the memory after all accepted writes, which stays what it was
abbrev pub SeesLine : Setup → ℕ → Result LineSeen ReadRefusal → List Event → List Reply → Machine → Machine → Type 0
SeesLine setup line (Ok seen) events replies old new = (read_refusal setup old line ≡ None) × IsSeen (line_of (memory_of old) line) seen × SameButWaits old new
SeesLine setup line (Err refusal) events replies old new = (read_refusal setup old line ≡ Some refusal) × (new ≡ old)

-- a step of the save that runs, or the first one of a save that is begun
abbrev pub AreOfStep : Result StepReply ArmRefusal → List Event → List Reply → Type 0
AreOfStep (Ok reply) asked told =
    ((reply ≢ step.NoSave) × (asked ≡ events.SaveStep ∷ []) × (told ≡ replies.SaveStep reply ∷ []))
    ⊎ ((asked ≡ events.SaveStep ∷ events.SaveBegin ∷ events.SaveStep ∷ []) × (told ≡ replies.SaveStep step.NoSave ∷ replies.SaveBegin (Ok tt) ∷ replies.SaveStep reply ∷ []))
AreOfStep (Err refusal) asked told = (asked ≡ events.SaveStep ∷ events.SaveBegin ∷ []) × (told ≡ replies.SaveStep step.NoSave ∷ replies.SaveBegin (Err refusal) ∷ [])

-- No save runs. The newest image has this generation and count and the memory after so many of the writes, and no other may
-- be found; where the module isn't armed it is complete.
pub record HasSaved (generation count : ℕ) (m : Machine) : Type 0 where
  pub idle : m.store.saving ≡ None
  pub generation_is : (newest_of m).generation ≡ generation
  pub count_is : (newest_of m).count ≡ count
  pub memory : (newest_of m).memory ≡ memory_after m count
  pub alone : m.store.maybe ≡ only m.store.maybe.slot (newest_of m)
  pub complete : is_armed m.mode ≡ false → (newest_of m).arm ≡ 0

-- what a step's reply says of the machine after it
abbrev pub IsSavedBy : StepReply → Machine → Type 0
IsSavedBy (step.Saved generation count) m = HasSaved generation count m
IsSavedBy reply m = Unit {0}

abbrev pub EndsSave : Result StepReply ArmRefusal → Machine → Type 0
EndsSave (Ok reply) m = IsSavedBy reply m
EndsSave (Err refusal) m = Unit {0}

-- the same writes, and the same image that the life began with
pub record SameWrites (old new : Machine) : Type 0 where
  pub opened : new.life.opened ≡ old.life.opened
  pub writes : new.life.writes ≡ old.life.writes

-- the last of these events is the step with this reply, or they are those that were refused so
abbrev pub EndsWithStep : Result StepReply ArmRefusal → List Event → List Reply → Type 0
EndsWithStep (Ok reply) asked told =
    (before : List Event) × (given : List Reply) × (asked ≡ before ++ events.SaveStep ∷ []) × (told ≡ given ++ replies.SaveStep reply ∷ [])
EndsWithStep (Err refusal) asked told = AreOfStep (Err refusal) asked told

-- steps of a save, and works: the writes stay, the last step has this reply, and a save that ends is whole
pub record GoesOnSaving (result : Result StepReply ArmRefusal) (events : List Event) (replies : List Reply) (old new : Machine) : Type 0 where
  pub same : SameWrites old new
  pub last : EndsWithStep result events replies
  pub ends : EndsSave result new

-- one step: these are its events
pub record MakesOneStep (result : Result StepReply ArmRefusal) (events : List Event) (replies : List Reply) (old new : Machine) : Type 0 where
  pub goes_on : GoesOnSaving result events replies old new
  pub are : AreOfStep result events replies
