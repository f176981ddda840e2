-- Which machine a front stands for, a module's life without its channels, and what its calls make of it.
use Rattle.std.specs.Prelude.{◌≡◌, ℕ, ◌+◌, ◌<◌, ◌^◌, Bool, false, true, if◌then◌else◌}
use Rattle.arm_state.specs.Modes.{is_armed}
use Rattle.channel_port.specs.Shape.{Shape, is_full_at}
use Rattle.channel_port.specs.Waits.{Waits}
use Rattle.line_memory.specs.declared.Write.{Write}
use Rattle.module_core.specs.declared.front.Front.{Front}
use Rattle.module_saves.specs.Saves.{StoreMoves}
use Rattle.module_saves.specs.Saving.{AreSameSave, Knows}
use Rattle.nv_machine.specs.Moves.{written}
use Rattle.nv_machine.specs.Refusals.{need_for}
use Rattle.nv_machine.specs.State.{Machine, Setup, all_of, pending_of, start_of_life}
use Rattle.nv_machine.specs.declared.events.Accepted.{Accepted}

-- of a life's numbers none has changed
pub record SameNumbers (old new : Front) : Type 0 where
  pub terms : new.terms ≡ old.terms
  pub accepted : new.accepted ≡ old.accepted
  pub persisted : new.persisted ≡ old.persisted

-- nothing but the saves has changed
pub record SameButSaves (old new : Front) : Type 0 where
  pub numbers : SameNumbers old new
  pub saved : new.saved ≡ old.saved
  pub reading : new.reading ≡ old.reading
  pub mode : new.mode ≡ old.mode

-- while it is armed the newest image is below the last generation that a save of its life has
abbrev pub IsUnspentWhileArmed : Front → Type 0
IsUnspentWhileArmed front = is_armed front.mode ≡ true → front.saves.newest.generation < 2 ^ 62

-- the machine's setup, where the channels have this shape
abbrev pub setup_in : Shape → Front → Setup
setup_in shape front = record { shape = shape; trail = front.terms.trail }

-- The front knows of the machine all but what waits in the channels.
pub record FrontMatches (front : Front) (m : Machine) : Type 0 where
  pub mode : front.mode ≡ m.mode
  pub reading : front.reading ≡ m.reading
  pub start : front.terms.start ≡ start_of_life m.life
  pub cut : front.terms.cut ≡ m.cut
  pub accepted : front.accepted ≡ all_of m
  pub persisted : front.persisted ≡ m.life.persisted
  pub knows : Knows front.saves.newest front.saves.closed front.saves.unsettled m.store
  pub saving : AreSameSave m.store.saving front.saves.saving

-- The front went on to stand for this machine, whose store is the one before, or has a save that was begun.
pub record FrontMoves (lines : ℕ) (m : Machine) (old : Front) (later : Machine) (new : Front) : Type 0 where
  pub matches : FrontMatches new later
  pub moves : StoreMoves lines m.store old.saves later.store new.saves

-- What the channels tell for a write: whether the line's channel is full, and where it isn't, what the gauge has to show with one
-- write more.
pub record TellsWrite (setup : Setup) (m : Machine) (line : ℕ) (is_full : Bool) (need : ℕ) : Type 0 where
  pub within : line < setup.shape.lines
  pub full : is_full ≡ is_full_at setup.shape m.waits line
  pub needed : is_full ≡ false → need ≡ need_for setup (pending_of m + 1)

-- one write more may be stored, and has a number
pub record HasRoomForWrite (front : Front) : Type 0 where
  pub trail : front.accepted < front.terms.cut + front.terms.trail
  pub numbers : front.accepted < 2 ^ 62

-- A write was accepted: of the front the numbers alone have changed, and so have those of the machine.
pub record AcceptsOne (old : Front) (accepted : Accepted) (new : Front) : Type 0 where
  pub number : accepted.number ≡ old.accepted
  pub mark : accepted.mark ≡ new.persisted
  pub one_more : new.accepted ≡ old.accepted + 1
  pub persisted : new.persisted ≡ (if is_armed old.mode then old.accepted + 1 else old.persisted)
  pub terms : new.terms ≡ old.terms
  pub saved : new.saved ≡ old.saved
  pub mode : new.mode ≡ old.mode
  pub reading : new.reading ≡ old.reading
  pub saves : new.saves ≡ old.saves
  pub matches : (m : Machine) (write : Write) (waits : Waits) → FrontMatches old m → FrontMatches new (record m { life = written m.mode m.life write; waits = waits })
