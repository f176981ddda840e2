-- How a file of sectors backs a device.
use Rattle.std.specs.Prelude.{◌≡◌, ◌≢◌, ℕ, ◌+◌, ◌*◌, ◌%◌, ◌<◌, ◌≤◌, Bool, true, false, IsTrue, List, length, slice_index, Option, Some, None}
use Rattle.save_device.specs.Device.{Moment, MayLeave}
use Rattle.save_device.specs.Rows.{IsInRange}
use Rattle.file_device.specs.Kept.{Kept}
use Rattle.sector_device.specs.declared.device.Gate.{Gate}
use Rattle.sector_device.specs.declared.device.Gate.TheVariants.{Shut, Ajar, Open}
use Rattle.sector_device.specs.Sectors.{IsInSector, IsOnDisk, IsPut, KeepsOthers, MayLeaveTouched}
use Rattle.sector_device.specs.Spare.{found_in, gate_at, spare_number, spare_size}

-- whole sectors
abbrev pub HasSectors : ℕ → Type 0
HasSectors size = size % 512 ≡ 0

-- a file of so many bytes is one of a device of this size: whole sectors, with the spare place behind them
abbrev pub IsFileSize : ℕ → ℕ → Type 0
IsFileSize size file = (file ≡ size + spare_size) × HasSectors size

-- what an opening finds in this image is one that a stop may leave of the device
abbrev pub FindsLeft : Moment → List ℕ → Type 0
FindsLeft moment image = MayLeave moment (found_in (length moment.bytes) image)

-- so it is with each image that a stop at any moment of a write of n bytes at this place may leave
abbrev pub LeavesLeftWithin : Moment → ℕ → ℕ → Kept → Type 0
LeavesLeftWithin moment at n kept = (image : List ℕ) → MayLeaveTouched at n kept image → FindsLeft moment image

-- the disk has the device's byte at this place, where it is settled
abbrev pub HasSettled : Moment → Kept → ℕ → Type 0
HasSettled moment kept place = place < length moment.bytes → ¬ IsTrue (moment.unsettled place) → IsOnDisk kept place (slice_index moment.bytes place)

-- the gate is shut, and the disk has the device's settled bytes
pub record IsShut (moment : Moment) (kept : Kept) : Type 0 where
  pub size : length kept.bytes ≡ length moment.bytes + spare_size
  pub gate : IsOnDisk kept (gate_at (length moment.bytes)) 0
  pub settled : (place : ℕ) → HasSettled moment kept place

-- the spare place has the number of a sector and, where it is one of the device's, its settled bytes; both are on the disk
pub record HoldsSector (number : ℕ) (moment : Moment) (kept : Kept) : Type 0 where
  pub rests : (place : ℕ) → IsInRange (length moment.bytes) 520 place → IsOnDisk kept place (slice_index kept.bytes place)
  pub number_is : spare_number (length moment.bytes) kept.bytes ≡ number
  pub content : (k : ℕ) → k < 512 → 512 * number + k < length moment.bytes → ¬ IsTrue (moment.unsettled (512 * number + k))
      → slice_index kept.bytes (length moment.bytes + k) ≡ slice_index moment.bytes (512 * number + k)

-- the gate may be found open or shut, and either is right: the disk has the device's settled bytes in their places too
pub record IsAjar (moment : Moment) (kept : Kept) : Type 0 where
  pub size : length kept.bytes ≡ length moment.bytes + spare_size
  pub holds : HoldsSector (spare_number (length moment.bytes) kept.bytes) moment kept
  pub settled : (place : ℕ) → HasSettled moment kept place

-- the gate is open for this sector, whatever its own place has
pub record IsOpenFor (number : ℕ) (moment : Moment) (kept : Kept) : Type 0 where
  pub size : length kept.bytes ≡ length moment.bytes + spare_size
  pub inside : 512 * number + 512 ≤ length moment.bytes
  pub opens : slice_index kept.bytes (gate_at (length moment.bytes)) ≢ 0
  pub gate : IsOnDisk kept (gate_at (length moment.bytes)) (slice_index kept.bytes (gate_at (length moment.bytes)))
  pub holds : HoldsSector number moment kept
  pub beside : (place : ℕ) → ¬ IsInSector number place → HasSettled moment kept place

-- the file backs a device with this moment, as its gate stands
pub record Stands (gate : Gate) (moment : Moment) (kept : Kept) : Type 0 where
  pub shut : gate ≡ Shut → IsShut moment kept
  pub ajar : gate ≡ Ajar → IsAjar moment kept
  pub opened : (number : ℕ) → gate ≡ Open number → IsOpenFor number moment kept

-- and goes on to, whatever becomes of the sectors that a write of n bytes at this place touches
abbrev pub StandsWithin : Gate → Moment → ℕ → ℕ → Kept → Type 0
StandsWithin gate moment at n kept = (after : Kept) → KeepsOthers at n false kept after → Stands gate moment after

-- the gate is open for no sector but one of a device of so many bytes
abbrev pub IsForSector : Gate → ℕ → Type 0
IsForSector gate size = (number : ℕ) → gate ≡ Open number → 512 * number + 512 ≤ size

-- the unsettled bytes below this place are put
abbrev pub IsPutBelow : ℕ → Moment → Kept → Type 0
IsPutBelow at moment kept = (place : ℕ) → place < at → IsTrue (moment.unsettled place) → IsPut kept place (slice_index moment.bytes place)

-- where all went well, the unsettled bytes below `to` are put if those below `at` were
abbrev pub PutsBelow : ℕ → ℕ → Moment → Bool → Kept → Kept → Type 0
PutsBelow at to moment good old new = good ≡ true → IsPutBelow at moment old → IsPutBelow to moment new

-- the unsettled bytes are put
pub record IsPutWhole (moment : Moment) (kept : Kept) : Type 0 where
  pub at : ℕ
  pub below : (place : ℕ) → IsTrue (moment.unsettled place) → place < at
  pub put : IsPutBelow at moment kept

-- the disk has all of the device's bytes, and the gate is shut
pub record IsSavedWhole (moment : Moment) (kept : Kept) : Type 0 where
  pub size : length kept.bytes ≡ length moment.bytes + spare_size
  pub gate : IsOnDisk kept (gate_at (length moment.bytes)) 0
  pub all : (place : ℕ) → place < length moment.bytes → IsOnDisk kept place (slice_index moment.bytes place)

-- how the gate stands that an opening finds in a file of a device of so many bytes, where it is open for this sector, if for one
abbrev pub IsFoundGate : ℕ → List ℕ → Option ℕ → Gate → Type 0
IsFoundGate size bytes (Some number) gate = gate ≡ Open number
IsFoundGate size bytes None (Open number) = ⊥
IsFoundGate size bytes None Ajar = slice_index bytes (gate_at size) ≢ 0
IsFoundGate size bytes None Shut = slice_index bytes (gate_at size) ≡ 0
