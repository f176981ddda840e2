-- What becomes of a channel between two notes, under its own lock alone.
use Rattle.std.specs.Prelude.{◌≡◌, ◌⊎◌, ℕ, zero, suc, false, List, Some}
use Rattle.channel_port.specs.declared.answers.Collected.TheVariants.{Data}
use Rattle.channel_port.specs.declared.answers.Served.{Served}
use Rattle.channel_port.specs.declared.answers.Ticket.{Ticket}
use Rattle.channel_port.specs.Answers.{IsCollected, IsServed}
use Rattle.channel_port.specs.Waits.{Waits}
use Rattle.channel_log.specs.Log.{Told}

-- While this is told of it a command serves a write below the hold or a read, where the life hasn't ended.
pub record Serves (channel : ℕ) (told : Told) (old new : Waits) : Type 0 where
  pub runs : told.ended ≡ false
  pub served : Served
  pub is : IsServed told.hold channel (Some served) old new

-- A read that has its bytes is collected.
pub record Collects (old new : Waits) : Type 0 where
  pub ticket : Ticket
  pub line : ℕ
  pub bytes : List ℕ
  pub at : ℕ
  pub is : IsCollected ticket (Data line bytes at) old new

-- Its own steps are these two, and it made so many of them.
abbrev pub OwnStep : ℕ → Told → Waits → Waits → Type 0
OwnStep channel told old new = Serves channel told old new ⊎ Collects old new

abbrev pub OwnSteps : ℕ → Told → ℕ → Waits → Waits → Type 0
OwnSteps channel told zero old new = new ≡ old
OwnSteps channel told (suc n) old new = (mid : Waits) × OwnSteps channel told n old mid × OwnStep channel told mid new

-- What waits on the channel came by its own steps of what waited at the last note.
pub record CameOf (channel : ℕ) (told : Told) (waits : Waits) : Type 0 where
  pub count : ℕ
  pub steps : OwnSteps channel told count told.waits waits
