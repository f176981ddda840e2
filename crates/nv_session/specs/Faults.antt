-- What a call of a session makes of the device's calls and faults.
use Rattle.std.specs.Prelude.{◌≡◌, ◌⊎◌, ℕ, ◌+◌, Bool, true, false, cond, List, Result, Ok, Err}
use Rattle.save_device.specs.declared.calls.Call.{Call}
use Rattle.save_device.specs.Calls.{MakesCalls}
use Rattle.save_device.specs.Device.{DeviceState, faults_of}
use Rattle.slot_store.specs.Steps.{format_calls}
use Rattle.slot_store.specs.Told.{CallsOfRestore}
use Rattle.slot_store.specs.declared.head.Head.{Head}
use Rattle.slot_store.specs.declared.restoring.RestoreError.{RestoreError}
use Rattle.slot_store.specs.declared.restoring.RestoreError.TheVariants as restores
use Rattle.slot_store.specs.declared.restoring.Restored.{Restored}
use Rattle.nv_session.specs.declared.lives.FormatError.{FormatError}
use Rattle.nv_session.specs.declared.lives.FormatError.TheVariants as errors

-- a call of the device failed in between, exactly where that is said
abbrev pub CountsFault : Bool → DeviceState → DeviceState → Type 0
CountsFault fails old new = faults_of new ≡ faults_of old + cond fails 1 0

-- a format tells that the device failed
abbrev pub is_format_fault : {T : Type 0} → Result T FormatError → Bool
is_format_fault (Err errors.Device) = true
is_format_fault result = false

-- The device had the calls of one format of so many lines: up to the first that failed where one did. For want of memory it had
-- none, or all.
abbrev pub HadOneFormat : {T : Type 0} → ℕ → Result T FormatError → List Call → List Call → Type 0
HadOneFormat lines (Ok done) old new = MakesCalls (format_calls lines) true old new
HadOneFormat lines (Err errors.Device) old new = MakesCalls (format_calls lines) false old new
HadOneFormat lines (Err errors.Memory) old new = (new ≡ old) ⊎ MakesCalls (format_calls lines) true old new

-- The device had the calls of one restore, which read an image of so many lines. Memory may have been refused behind it too.
abbrev pub HadOneRestore : ℕ → Result Head RestoreError → DeviceState → DeviceState → Type 0
HadOneRestore lines (Ok head) old new = (it : Restored) × (it.head ≡ head) × CallsOfRestore lines (Ok it) old new
HadOneRestore lines (Err restores.Memory) old new = CallsOfRestore lines (Err restores.Memory) old new ⊎ ((it : Restored) × CallsOfRestore lines (Ok it) old new)
HadOneRestore lines (Err error) old new = CallsOfRestore lines (Err error) old new

-- behind a stop, which makes no call and left these bytes
pub record RestoresOnce (lines : ℕ) (result : Result Head RestoreError) (old new : DeviceState) : Type 0 where
  pub stopped : DeviceState
  pub calls : stopped.calls ≡ old.calls
  pub bytes : stopped.bytes ≡ new.bytes
  pub had : HadOneRestore lines result stopped new
