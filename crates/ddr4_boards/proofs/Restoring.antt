-- The faults in the calls of a restore.
use Rattle.std.proofs.Common.{Err, List, Ok, [], ap, arith, inl, inr, not, refl, ℕ, ◌++◌, ◌+◌, ◌∙◌, ◌∷◌, ◌≡◌}
use Rattle.std.specs.Prelude.{cond, replicate}
use Rattle.std.proofs.lemmas.List.Sums.{sum_by-append}
use Rattle.save_device.specs.Calls.{all_good, called, faults_in}
use Rattle.save_device.specs.Device.{DeviceState, faults_of}
use Rattle.save_device.specs.declared.calls.Call.{Call}
use Rattle.save_device.specs.declared.calls.CallKind.{CallKind}
use Rattle.save_device.specs.declared.calls.CallKind.TheVariants.{Read}
use Rattle.save_device.proofs.CallLists.{faults_more}
use Rattle.slot_store.specs.Slots.{other}
use Rattle.slot_store.specs.Told.{CallsOfRestore, checking_calls, header_at, header_calls, pages_checked}
use Rattle.slot_store.specs.declared.restoring.RestoreError.{RestoreError}
use Rattle.slot_store.specs.declared.slots.Slot.TheVariants.{First}
use Rattle.ddr4_boards.specs.Restored.{HadOneRefused, HadOneRestore, IsToldByFaults}

none : (kinds : List CallKind) → faults_in (all_good kinds) ≡ 0
none [] = refl
none (kind ∷ kinds) = none kinds

-- calls that went well add no fault
none_added : (kinds : List CallKind) (old : List Call) → faults_in (old ++ all_good kinds) ≡ faults_in old
none_added kinds old =
    let both : faults_in (old ++ all_good kinds) ≡ faults_in old + faults_in (all_good kinds) = sum_by-append (λ (call : Call). cond (not call.is_good) 1 0) old (all_good kinds) in
    omega (arith, both, none kinds)

pub none_failed : (kinds : List CallKind) (old new : List Call) → new ≡ old ++ all_good kinds → faults_in new ≡ faults_in old
none_failed kinds old new made = ap faults_in made ∙ none_added kinds old

pub restored_spared : (lines : ℕ) (old new : DeviceState) → HadOneRestore lines old new → faults_of new ≡ faults_of old
restored_spared lines old new (it, calls) = none_failed (checking_calls lines (header_at lines (other it.head.newest.slot) old.bytes)) old.calls new.calls calls.0

pub refused_by_faults : (lines : ℕ) (error : RestoreError) (old new : DeviceState) → CallsOfRestore lines (Err error) old new → IsToldByFaults error (faults_of old) (faults_of new)
refused_by_faults lines RestoreError.NoImage old new (calls, settled) = none_failed header_calls old.calls new.calls calls
refused_by_faults lines (RestoreError.Damaged slot) old new (inl calls, settled) =
    none_failed (header_calls ++ replicate (pages_checked lines (header_at lines First old.bytes)) Read) old.calls new.calls calls
refused_by_faults lines (RestoreError.Damaged slot) old new (inr (behind, calls), settled) = none_failed (checking_calls lines (header_at lines behind old.bytes)) old.calls new.calls calls
refused_by_faults lines RestoreError.WrongSize old new same = ap faults_of same
refused_by_faults lines RestoreError.Device old new calls = faults_more _ old.calls new.calls calls
refused_by_faults lines RestoreError.Memory old new (calls, settled) = none_failed header_calls old.calls new.calls calls

pub had_one_refused : (lines : ℕ) (error : RestoreError) (old new : DeviceState) → CallsOfRestore lines (Err error) old new → HadOneRefused lines error old new
had_one_refused lines RestoreError.NoImage old new calls = calls
had_one_refused lines (RestoreError.Damaged slot) old new calls = calls
had_one_refused lines RestoreError.WrongSize old new calls = calls
had_one_refused lines RestoreError.Device old new calls = calls
had_one_refused lines RestoreError.Memory old new calls = inl calls
