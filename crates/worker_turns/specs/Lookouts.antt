-- A read that waits, by what it is lent.
use Rattle.std.specs.Prelude.{◌≡◌, ℕ, zero, suc, Result, Ok, Err}
use Rattle.arm_state.specs.declared.refusal.ReadRefusal.{ReadRefusal}
use Rattle.arm_state.specs.declared.refusal.ReadRefusal.TheVariants as refusals
use Rattle.channel_port.specs.declared.answers.Collected.{Collected}
use Rattle.channel_port.specs.declared.answers.Collected.TheVariants.{Data, Pending, Unknown}
use Rattle.channel_port.specs.declared.answers.Ticket.{Ticket}
use Rattle.worker_turns.specs.declared.awaiting.Seen.{Seen}
use Rattle.worker_turns.specs.declared.lookout.Lookout.{Ghosts}

-- How a wait ends, by what there was for its ticket at last: a line with its bytes and the count of writes before it, or nothing any
-- more.
abbrev pub EndsWaiting : (Collected → Type 0) → Result Seen ReadRefusal → Type 0
EndsWaiting found (Ok seen) = found (Data seen.line seen.data seen.at)
EndsWaiting found (Err refusal) = (refusal ≡ refusals.Closed) × found Unknown

module _ {L : Type 0} (G : Ghosts L) where
  -- there was nothing for the ticket yet, and it waited
  pub record LooksInVain (ticket : Ticket) (old new : L) : Type 0 where
    pub looked : L
    pub looks : G.looks ticket Pending old looked
    pub waits : G.waits looked new

  -- so many times
  abbrev pub LooksTimes : ℕ → Ticket → L → L → Type 0
  LooksTimes zero ticket old new = new ≡ old
  LooksTimes (suc times) ticket old new = (mid : L) × LooksTimes times ticket old mid × LooksInVain ticket mid new

  -- It looked until there was an answer.
  pub record Awaits (ticket : Ticket) (result : Result Seen ReadRefusal) (old new : L) : Type 0 where
    pub times : ℕ
    pub last : L
    pub vain : LooksTimes times ticket old last
    pub ends : EndsWaiting (λ answer. G.looks ticket answer last new) result
