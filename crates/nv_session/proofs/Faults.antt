-- How a device's faults are counted.
use Rattle.std.proofs.Common.{◌≡◌, inl, inr, ℕ, ◌/◌, Bool, true, false, cond, not, List, [], ◌∷◌, ◌++◌, replicate, Result, Ok, Err, refl, ap, arith}
use Rattle.std.proofs.lemmas.List.Sums.{sum_by-append}
use Rattle.save_device.specs.declared.calls.Call.{Call}
use Rattle.save_device.specs.declared.calls.CallKind.{CallKind}
use Rattle.save_device.specs.declared.calls.CallKind.TheVariants.{Read}
use Rattle.save_device.specs.Calls.{MakesCalls, all_good, faults_in}
use Rattle.save_device.specs.Device.{DeviceState, faults_of}
use Rattle.save_device.proofs.CallLists.{faults_more}
use Rattle.slot_store.specs.declared.restoring.Restored.{Restored}
use Rattle.slot_store.specs.declared.restoring.RestoreError.{RestoreError}
use Rattle.slot_store.specs.declared.restoring.RestoreError.TheVariants as errors
use Rattle.slot_store.specs.declared.slots.Slot.TheVariants.{First}
use Rattle.slot_store.specs.Slots.{other}
use Rattle.slot_store.specs.Told.{CallsOfRestore, checking_calls, header_at, header_calls, is_fault, pages_checked, restore_calls}
use Rattle.nv_session.specs.Faults.{CountsFault, HadOneRestore}

good_ones : (kinds : List CallKind) → faults_in (all_good kinds) ≡ 0
good_ones [] = refl
good_ones (kind ∷ kinds) = good_ones kinds

-- a fault is counted where one of the calls failed
pub calls_count : (kinds : List CallKind) (good : Bool) (old new : DeviceState) → MakesCalls kinds good old.calls new.calls → CountsFault (not good) old new
calls_count kinds true old new made = omega (arith, ap faults_in made, sum_by-append (λ (call : Call). cond (not call.is_good) 1 0) old.calls (all_good kinds), good_ones kinds)
calls_count kinds false old new made = faults_more kinds old.calls new.calls made

-- so it is in a restore
pub restore_counts : (lines : ℕ) (result : Result Restored RestoreError) (old new : DeviceState) → CallsOfRestore lines result old new → CountsFault (is_fault result) old new
restore_counts lines (Ok restored) old new made = calls_count (checking_calls lines (header_at lines (other restored.head.newest.slot) old.bytes)) true old new made.0
restore_counts lines (Err errors.WrongSize) old new same = omega (arith, ap faults_of same)
restore_counts lines (Err errors.Device) old new made = calls_count (restore_calls lines ++ replicate (lines / 64) Read) false old new made
restore_counts lines (Err (errors.Damaged slot)) old new (inl here, settled) = calls_count (header_calls ++ replicate (pages_checked lines (header_at lines First old.bytes)) Read) true old new here
restore_counts lines (Err (errors.Damaged slot)) old new (inr behind, settled) = calls_count (checking_calls lines (header_at lines behind.0 old.bytes)) true old new behind.1
restore_counts lines (Err errors.NoImage) old new made = calls_count header_calls true old new made.0
restore_counts lines (Err errors.Memory) old new made = calls_count header_calls true old new made.0

-- calls that stayed the same count no fault
pub counts_behind : (fails : Bool) (old mid new : DeviceState) → mid.calls ≡ old.calls → CountsFault fails mid new → CountsFault fails old new
counts_behind fails old mid new same counts = omega (arith, ap faults_in same, counts)

pub counts_alike : (fails : Bool) (old mid new : DeviceState) → new ≡ mid → CountsFault fails old mid → CountsFault fails old new
counts_alike fails old mid new same counts = omega (arith, ap faults_of same, counts)

-- a restore that is refused makes its calls
pub refused_calls : (lines : ℕ) (error : RestoreError) (old new : DeviceState) → CallsOfRestore lines (Err error) old new → HadOneRestore lines (Err error) old new
refused_calls lines errors.Memory old new made = inl made
refused_calls lines errors.NoImage old new made = made
refused_calls lines (errors.Damaged slot) old new made = made
refused_calls lines errors.WrongSize old new made = made
refused_calls lines errors.Device old new made = made
