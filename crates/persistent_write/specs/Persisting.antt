-- A write, and the saves behind it.
use Rattle.std.specs.Prelude.{◌≡◌, ℕ, List, [], ◌∷◌, ◌++◌, Result, Ok, Err}
use Rattle.line_memory.specs.declared.Write.{Write}
use Rattle.notice_book.specs.declared.entry.Persisted.{Persisted}
use Rattle.arm_state.specs.declared.refusal.WriteRefusal.{WriteRefusal}
use Rattle.nv_machine.specs.declared.events.Accepted.{Accepted}
use Rattle.nv_machine.specs.declared.events.Event.{Event}
use Rattle.nv_machine.specs.declared.events.Event.TheVariants as events
use Rattle.nv_machine.specs.declared.events.Reply.{Reply}
use Rattle.nv_machine.specs.declared.events.Reply.TheVariants as replies
use Rattle.nv_machine.specs.State.{Machine, all_of}
use Rattle.nv_session.specs.Turns.{SameWrites}
use Rattle.persistent_write.specs.declared.writing.NotPersistent.{NotPersistent}
use Rattle.persistent_write.specs.declared.writing.NotPersistent.TheVariants as why

-- these are the last ones
pub record EndsWith (event : Event) (reply : Reply) (asked : List Event) (told : List Reply) : Type 0 where
  pub before : List Event
  pub given : List Reply
  pub asked_is : asked ≡ before ++ event ∷ []
  pub told_is : told ≡ given ++ reply ∷ []

-- The last event of a save for a write of this number, where it isn't persistent behind it: the beginning that was refused so, or the
-- step with this reply.
abbrev pub EndsFor : ℕ → Result Persisted NotPersistent → List Event → List Reply → Type 0
EndsFor number (Ok persisted) asked told = persisted.number ≡ number
EndsFor number (Err (why.Refused refusal)) asked told = ⊥
EndsFor number (Err (why.NotBegun given refusal)) asked told = (given ≡ number) × EndsWith events.SaveBegin (replies.SaveBegin (Err refusal)) asked told
EndsFor number (Err (why.NotSaved given last)) asked told = (given ≡ number) × EndsWith events.SaveStep (replies.SaveStep last) asked told

-- a save for it: no write was accepted
pub record SavesFor (number : ℕ) (result : Result Persisted NotPersistent) (asked : List Event) (told : List Reply) (old new : Machine) : Type 0 where
  pub same : SameWrites old new
  pub ends : EndsFor number result asked told

-- The first event was this write, which was accepted with the next number, and no other write was.
pub record HasWritten (write : Write) (number : ℕ) (asked : List Event) (told : List Reply) (old new : Machine) : Type 0 where
  pub accepted : Accepted
  pub number_is : accepted.number ≡ number
  pub next : number ≡ all_of old
  pub later : List Event
  pub others : List Reply
  pub first : asked ≡ events.Write write ∷ later
  pub answered : told ≡ replies.Write (Ok accepted) ∷ others
  pub opened : new.life.opened ≡ old.life.opened
  pub writes : new.life.writes ≡ old.life.writes ++ write ∷ []

-- the write was refused so, and nothing happened
pub record WasRefused (write : Write) (refusal : WriteRefusal) (asked : List Event) (told : List Reply) (old new : Machine) : Type 0 where
  pub asked_is : asked ≡ events.Write write ∷ []
  pub told_is : told ≡ replies.Write (Err refusal) ∷ []
  pub same : new ≡ old

-- the number of a write that was accepted
abbrev pub number_in : Result Persisted NotPersistent → ℕ
number_in (Ok persisted) = persisted.number
number_in (Err (why.Refused refusal)) = 0
number_in (Err (why.NotBegun number refusal)) = number
number_in (Err (why.NotSaved number last)) = number

-- A write is the module's own, and its number is told. It is persistent, or the last event says why it isn't.
abbrev pub WritesPersistently : Write → Result Persisted NotPersistent → List Event → List Reply → Machine → Machine → Type 0
WritesPersistently write (Err (why.Refused refusal)) asked told old new = WasRefused write refusal asked told old new
WritesPersistently write result asked told old new = HasWritten write (number_in result) asked told old new × EndsFor (number_in result) result asked told
