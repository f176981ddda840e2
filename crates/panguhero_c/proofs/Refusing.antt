-- Codes of what is refused.
use Rattle.std.proofs.Common.{◌≡◌, ℕ, ap, arith, sym, subst}
use Rattle.open_life.specs.declared.opening.OpenFault.{OpenFault}
use Rattle.open_life.specs.declared.opening.OpenFault.TheVariants as fault
use Rattle.slot_store.specs.declared.restoring.RestoreError.{RestoreError}
use Rattle.slot_store.specs.declared.restoring.RestoreError.TheVariants as restore
use Rattle.reply_codes.specs.declared.codes.Told.{Told}
use Rattle.reply_codes.specs.Codes.{IsRefusal, open_code, restore_code, told_code}

pub refused_restore : (error : RestoreError) → IsRefusal (restore_code error)
refused_restore restore.NoImage = (λ e. absurd (omega (arith, e)), λ e. absurd (omega (arith, e)), λ e. absurd (omega (arith, e)))
refused_restore (restore.Damaged slot) = (λ e. absurd (omega (arith, e)), λ e. absurd (omega (arith, e)), λ e. absurd (omega (arith, e)))
refused_restore restore.WrongSize = (λ e. absurd (omega (arith, e)), λ e. absurd (omega (arith, e)), λ e. absurd (omega (arith, e)))
refused_restore restore.Device = (λ e. absurd (omega (arith, e)), λ e. absurd (omega (arith, e)), λ e. absurd (omega (arith, e)))
refused_restore restore.Memory = (λ e. absurd (omega (arith, e)), λ e. absurd (omega (arith, e)), λ e. absurd (omega (arith, e)))

pub refused_opening : (error : OpenFault) → IsRefusal (open_code error)
refused_opening (fault.Restore error) = refused_restore error
refused_opening fault.Format = (λ e. absurd (omega (arith, e)), λ e. absurd (omega (arith, e)), λ e. absurd (omega (arith, e)))
refused_opening fault.Memory = (λ e. absurd (omega (arith, e)), λ e. absurd (omega (arith, e)), λ e. absurd (omega (arith, e)))

-- told with no numbers
pub refused_told : (told : Told) (code : ℕ) → told ≡ told_code code → IsRefusal code → IsRefusal told.code
refused_told told code is refusal = subst IsRefusal (sym (ap (λ (t : Told). t.code) is)) refusal
