-- How a write is made persistent.
use Rattle.std.proofs.Common.{◌≡◌, ◌<◌, ◌≤◌, ℕ, Option, Some, None, refl, arith}
use Rattle.channel_port.specs.declared.port.ChannelPort.{Ghosts}
use Rattle.open_life.specs.declared.life.OpenLife.{OpenLife}
use Rattle.save_device.specs.declared.device.SaveDevice as device
use Rattle.reply_codes.specs.declared.codes.Told.{Told}
use Rattle.panguhero_c.specs.Calls.{Persists, SavesFor, accepted_in, mark_in}
use Rattle.reply_codes.specs.Codes.{told}

-- no value
pub none_of : {X : Type 0} (it : Option X) → ((x : X) → it ≡ Some x → ⊥) → it ≡ None
none_of None none = refl
none_of (Some x) none = absurd (none x refl)

module _ {K D : Type 0} {L : Ghosts K} {S : device.Ghosts D} (number : ℕ) (answered : Told) (old new : OpenLife K D L S) where
  pub no_such_write : accepted_in old ≤ number → answered ≡ told 24 (accepted_in old) 0 → new ≡ old → Persists number answered old new
  no_such_write past is same = record {
    none = λ z. (is, same);
    already = λ accepted. absurd (omega (arith, past, accepted));
    saves = λ accepted. absurd (omega (arith, past, accepted));
  }

  pub persistent_already : number < accepted_in old → number < mark_in old → answered ≡ told 0 (mark_in old) 0 → new ≡ old → Persists number answered old new
  persistent_already accepted below is same = record {
    none = λ past. absurd (omega (arith, past, accepted));
    already = λ z y. (is, same);
    saves = λ z above. absurd (omega (arith, above, below));
  }

  pub by_saves : number < accepted_in old → mark_in old ≤ number → SavesFor number answered old new → Persists number answered old new
  by_saves accepted above saves = record {
    none = λ past. absurd (omega (arith, past, accepted));
    already = λ z below. absurd (omega (arith, above, below));
    saves = λ z y. saves;
  }
