-- What a channel's lock keeps of its part.
use Rattle.std.proofs.Common.{◌≡◌, ◌∙◌, ℕ, List, Option, Some, ap, subst}
use Rattle.std.proofs.Math.Logic.{∥∥₁_elim, ∥∥₁_map}
use Rattle.std.proofs.Math.Nat.{ℕ_set}
use Rattle.channel_log.specs.Log.{LogNote}
use Rattle.channel_port.specs.declared.port.ChannelPort.{Ghosts}
use Rattle.channel_port.specs.Waits.{Waits}
use Rattle.channel_locks.specs.declared.part.Part.{Part}
use Rattle.channel_locks.specs.Stands.{StandsStill}
use Rattle.channel_locks.specs.declared.parts_name.PartsName.{Ghosts as NameGhosts}
use Rattle.channel_locks.specs.Lent.{IsOfChannel}
use Rattle.channel_locks.specs.PortMakes.{make_of}
use Rattle.channel_locks.specs.Slots.{IsPartWhereDue}

module _ {K B : Type 0} (L : Ghosts K) (O : NameGhosts B) where
  -- a part that is there is the channel's
  pub part_of_channel : (part : Option (Part K L)) (channel : ℕ) (log : List LogNote) → ∥ IsPartWhereDue L O part channel log ∥₁ → IsOfChannel L channel part
  part_of_channel lent channel log due part is =
      ∥∥₁_elim (subst (λ it. ∥ IsPartWhereDue L O it channel log ∥₁) is due) (ℕ_set part.channel channel) (λ h. part.here ∙ h.1.stands.port.number)

  -- a part that stands for the same logs as before is the board's still
  pub still_due : (lent : Option (Part K L)) (old new : Part K L) (waits : Waits) (stored : ℕ → List ℕ) (channel : ℕ) (log : List LogNote)
      → lent ≡ Some old → StandsStill L old new → L.view new.port ≡ record (L.view old.port) { waits = waits; stored = stored }
      → ∥ IsPartWhereDue L O lent channel log ∥₁ → ∥ IsPartWhereDue L O (Some new) channel log ∥₁
  still_due lent old new waits stored channel log is still rest due =
      ∥∥₁_map (subst (λ part. ∥ IsPartWhereDue L O part channel log ∥₁) is due) (λ h. (
        h.0,
        record {
          stands = still channel O.base log h.1.stands;
          made = ap make_of rest ∙ h.1.made;
          reads = h.1.reads;
        },
      ))
