-- Why a call of a journal is refused, and what was written then.
use Rattle.std.specs.Prelude.{◌≡◌, ◌<◌, ◌⊎◌, ℕ, List}
use Rattle.channel_port.specs.declared.port.ChannelPort.{Ghosts}
use Rattle.module_core.specs.declared.module.Module.{Module}
use Rattle.journal_log.specs.Calls.{Append, Truncate}
use Rattle.journal_lines.specs.declared.index.Index.{Index}
use Rattle.journal_lines.specs.Indexed.{HasRoom, IsWithin, end_of_index}
use Rattle.module_journal.specs.declared.journal.AppendRefusal.{AppendRefusal}
use Rattle.module_journal.specs.declared.journal.AppendRefusal.TheVariants as appends
use Rattle.module_journal.specs.declared.journal.TruncateRefusal.{TruncateRefusal}
use Rattle.module_journal.specs.declared.journal.TruncateRefusal.TheVariants as truncations
use Rattle.module_journal.specs.Writing.{IsRefused}

module _ {K : Type 0} (L : Ghosts K) where
  -- NoSpace where the record doesn't fit, and nothing was called; Refused where it does and the module refused a write of it
  abbrev pub IsAppendRefused : AppendRefusal → Index → List ℕ → Module K L → Module K L → Type 0
  IsAppendRefused appends.NoSpace index bytes old new = (HasRoom index bytes → ⊥) × (new ≡ old)
  IsAppendRefused appends.Memory index bytes old new = new ≡ old
  IsAppendRefused (appends.Refused refusal) index bytes old new = HasRoom index bytes × IsRefused L refusal index (Append bytes) old new

  -- NoSuchRecord where the number is below the beginning or past the end, and nothing was called
  abbrev pub IsTruncateRefused : TruncateRefusal → Index → ℕ → Module K L → Module K L → Type 0
  IsTruncateRefused truncations.NoSuchRecord index upto old new = ((upto < index.gone) ⊎ (end_of_index index < upto)) × (new ≡ old)
  IsTruncateRefused (truncations.Refused refusal) index upto old new = IsWithin index upto × IsRefused L refusal index (Truncate upto) old new
