-- What was done while a channel's lock lent what lies behind it. Which value it lent no clause can name, so these say that there is
-- one.
use Rattle.std.specs.Prelude.{◌≡◌, ℕ, Bool, List, Option}
use Rattle.std.specs.Option.{ForSome}
use Rattle.channel_log.specs.Log.{LogNote, Told, log_tells}
use Rattle.channel_log.specs.ReadLines.{IsLineBehind}
use Rattle.channel_port.specs.declared.answers.Collected.{Collected}
use Rattle.channel_port.specs.declared.answers.Collected.TheVariants.{Data}
use Rattle.channel_port.specs.declared.answers.Ticket.{Ticket}
use Rattle.channel_port.specs.declared.port.ChannelPort.{Ghosts}
use Rattle.channel_locks.specs.declared.part.Part.{Part}
use Rattle.worker_turns.specs.declared.Gate.{Ghosts as GateGhosts}
use Rattle.channel_locks.specs.declared.parts_name.PartsName.{Ghosts as NameGhosts}
use Rattle.channel_locks.specs.declared.turns.ChannelTurn.{ChannelTurn}
use Rattle.channel_locks.specs.Alone.{MakesRoomAlone, ServesAlone, WorksAlone, lost_mains_in}
use Rattle.channel_locks.specs.Slots.{IsPartWhereDue}
use Rattle.worker_turns.specs.Inside.{AwaitsInside}

-- Bytes that a ticket has are its line's behind so many writes, by what is told of the channel.
abbrev pub GivesItsLine : List (List ℕ) → Told → Collected → Type 0
GivesItsLine base told (Data line bytes at) = IsLineBehind base told.written line at bytes
GivesItsLine base told answer = Unit {0}

module _ {K : Type 0} (L : Ghosts K) where
  -- what was lent is of this channel
  abbrev pub IsOfChannel : ℕ → Option (Part K L) → Type 0
  IsOfChannel channel lent = ForSome lent (λ (part : Part K L). part.channel ≡ channel)

module _ {K B : Type 0} (L : Ghosts K) (O : NameGhosts B) where
  -- The lock of this channel lent it: the part that is due there by some log, or none where the board lacks the channel.
  abbrev pub IsLentBy : ℕ → Option (Part K L) → Type 0
  IsLentBy channel lent = (log : List LogNote) × ∥ IsPartWhereDue L O lent channel log ∥₁

  -- the channel was worked once, behind the gate that was asked with the lock held
  pub record LentTurn {G : Type 0} (H : GateGhosts G) (channel : ℕ) (gate : G) (turn : ChannelTurn) : Type 0 where
    pub before : Option (Part K L)
    pub after : Option (Part K L)
    pub asked : AwaitsInside H channel gate
    pub lent : IsLentBy channel before
    pub works : WorksAlone L turn.done before after
    pub ended : turn.ended ≡ lost_mains_in L after

  -- A ticket was served so by its channel. Bytes that it had are its line of the memory behind so many writes, by the channel's log.
  pub record LentServe (ticket : Ticket) (answer : Collected) : Type 0 where
    pub before : Option (Part K L)
    pub after : Option (Part K L)
    pub lent : IsLentBy ticket.channel before
    pub serves : ServesAlone L ticket answer before after
    pub has : GivesItsLine O.base (log_tells lent.0) answer

  -- a channel was worked while it had no room for a write
  pub record LentRoom (channel : ℕ) : Type 0 where
    pub before : Option (Part K L)
    pub after : Option (Part K L)
    pub lent : IsLentBy channel before
    pub room : MakesRoomAlone L before after

  -- mains were lost by what the lock of this channel lent, or were there
  pub record LentEnd (channel : ℕ) (ended : Bool) : Type 0 where
    pub seen : Option (Part K L)
    pub lent : IsLentBy channel seen
    pub is : ended ≡ lost_mains_in L seen
