-- What a device restores to, and the record of a life that begins with it.
use Rattle.std.specs.Prelude.{◌≡◌, ◌⊎◌, ◌+◌, ℕ, [], Ok, Err}
use Rattle.line_memory.specs.History.{Recorded, recorded}
use Rattle.save_device.specs.Device.{DeviceState}
use Rattle.save_image.specs.Image.{Image}
use Rattle.slot_store.specs.declared.restoring.RestoreError.{RestoreError}
use Rattle.slot_store.specs.declared.restoring.RestoreError.TheVariants as errors
use Rattle.slot_store.specs.declared.restoring.Restored.{Restored}
use Rattle.slot_store.specs.declared.slots.Slot.{Slot}
use Rattle.slot_store.specs.Outcomes.{Outcome, Found}
use Rattle.slot_store.specs.Told.{CallsOfRestore}

-- it has the memory and the count of the image that was found, no write, and room for so many
pub record RecordsRestored (found : Outcome) (trail : ℕ) (history : Recorded) : Type 0 where
  pub slot : Slot
  pub image : Image
  pub finds : found ≡ Found slot image
  pub records : history ≡ recorded image.memory image.count [] trail

-- The device had the calls of one restore, which read an image of so many lines, and no other one.
abbrev pub HadOneRestore : ℕ → DeviceState → DeviceState → Type 0
HadOneRestore lines old new = (it : Restored) × CallsOfRestore lines (Ok it) old new

-- The same where no module was opened for this reason. Memory may have been refused behind the restore too.
abbrev pub HadOneRefused : ℕ → RestoreError → DeviceState → DeviceState → Type 0
HadOneRefused lines errors.Memory old new = CallsOfRestore lines (Err errors.Memory) old new ⊎ HadOneRestore lines old new
HadOneRefused lines error old new = CallsOfRestore lines (Err error) old new

-- A call of the device failed where the reason says so, one of them, and none where it says another.
abbrev pub IsToldByFaults : RestoreError → ℕ → ℕ → Type 0
IsToldByFaults errors.Device before after = after ≡ before + 1
IsToldByFaults error before after = after ≡ before
