-- What only grows: the history of a life, and its two marks.
use Rattle.std.specs.Prelude.{◌≡◌, ℕ, ◌<◌, ◌≤◌, List, [], ◌∷◌, ◌+◌, ◌++◌, length, Ok, Option}
use Rattle.line_memory.specs.declared.Write.{Write}
use Rattle.line_memory.specs.History.{write_at}
use Rattle.nv_machine.specs.declared.events.Accepted.{Accepted}
use Rattle.nv_machine.specs.declared.events.Event.{Event}
use Rattle.nv_machine.specs.declared.events.Event.TheVariants as events
use Rattle.nv_machine.specs.declared.events.Reply.{Reply}
use Rattle.nv_machine.specs.declared.events.Reply.TheVariants as replies
use Rattle.nv_machine.specs.State.{Setup, Machine, World, start_of_life, all_of, memory_after}
use Rattle.nv_machine.specs.Headline.{Run}

-- The life is the one that it was, its history goes on with further writes, and neither mark falls.
pub record Rises (old new : Machine) : Type 0 where
  pub opened : new.life.opened ≡ old.life.opened
  pub more : List Write
  pub history : new.life.writes ≡ old.life.writes ++ more
  pub accepted : all_of old ≤ all_of new
  pub persisted : old.life.persisted ≤ new.life.persisted

-- the write that an event adds to the history, where it was accepted
abbrev pub added : Event → Reply → List Write
added (events.Write write) (replies.Write (Ok accepted)) = write ∷ []
added event reply = []

-- the writes that were accepted among events
abbrev pub accepted_in : List Event → List Reply → List Write
accepted_in [] replies = []
accepted_in (event ∷ events) [] = []
accepted_in (event ∷ events) (reply ∷ replies) = added event reply ++ accepted_in events replies

-- if a write was accepted, this is the number that it was told
abbrev pub TellsNumber : ℕ → Reply → Type 0
TellsNumber number reply = (accepted : Accepted) → reply ≡ replies.Write (Ok accepted) → accepted.number ≡ number

-- Each accepted write was told its place in the history, where so many were accepted before these events.
abbrev pub AreNumberedFrom : ℕ → List Event → List Reply → Type 0
AreNumberedFrom all [] replies = Unit {0}
AreNumberedFrom all (event ∷ events) [] = Unit {0}
AreNumberedFrom all (event ∷ events) (reply ∷ replies) =
    TellsNumber all reply × AreNumberedFrom (all + length (added event reply)) events replies

-- the accepted write of a number, where it is one of this life's
abbrev pub accepted_write_of : Machine → ℕ → Option Write
accepted_write_of m number = write_at (start_of_life m.life) m.life.writes number

-- The writes that were accepted are the same, and so is the memory after each number of them.
pub record KeepsHistory (old new : Machine) : Type 0 where
  pub writes : (number : ℕ) → number < all_of old → accepted_write_of new number ≡ accepted_write_of old number
  pub memory : (at : ℕ) → start_of_life old.life ≤ at → at ≤ all_of old → memory_after new at ≡ memory_after old at

-- in each event of a run
abbrev pub RisesAlong : (setup : Setup) (events : List Event) (replies : List Reply) (old new : World) → Run setup events replies old new → Type 0
RisesAlong setup [] [] old new run = Unit {0}
RisesAlong setup (event ∷ events) (reply ∷ replies) old new run =
    Rises old.machine run.0.machine × RisesAlong setup events replies run.0 new run.2
RisesAlong setup [] (reply ∷ replies) old new none = ⊥
RisesAlong setup (event ∷ events) [] old new none = ⊥
