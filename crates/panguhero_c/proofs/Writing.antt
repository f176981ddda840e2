-- A write of a buffer that is as long as a line.
use Rattle.std.proofs.Common.{◌≡◌, ℕ, List, length, subst}
use Rattle.channel_port.specs.declared.port.ChannelPort.{Ghosts}
use Rattle.open_life.specs.declared.life.OpenLife.{OpenLife}
use Rattle.save_device.specs.declared.device.SaveDevice as device
use Rattle.reply_codes.specs.declared.codes.Told.{Told}
use Rattle.panguhero_c.specs.Calls.{Writes, WritesLine}

pub writes : {K D : Type 0} {L : Ghosts K} {S : device.Ghosts D} (line : ℕ) (bytes written : List ℕ) (told : Told) (old new : OpenLife K D L S)
    → length bytes ≡ 64 → written ≡ bytes → WritesLine line written told old new → Writes line bytes told old new
writes line bytes written told old new long same made = record {
  whole = λ z. subst (λ (ws : List ℕ). WritesLine line ws told old new) same made;
  short = λ other. absurd (other long);
}
