-- What `restore` answers.
use Rattle.std.specs.Prelude.{◌≡◌, ◌⊎◌, ◌==◌, ℕ, ◌+◌, ◌/◌, Bool, true, false, List, [], ◌∷◌, ◌++◌, replicate, slice_index, Result, Ok, Err, Option, Some, None, is_some, ⊤, if◌then◌else◌}
use Rattle.save_device.specs.declared.calls.CallKind.{CallKind}
use Rattle.save_device.specs.declared.calls.CallKind.TheVariants.{Read, Sync}
use Rattle.save_device.specs.Calls.{MakesCalls}
use Rattle.save_device.specs.Device.{DeviceState, IsSettled}
use Rattle.save_image.specs.declared.reading.Header.{Header}
use Rattle.save_image.specs.declared.reading.Version.{Version}
use Rattle.save_image.specs.declared.reading.Version.TheVariants.{One, Two}
use Rattle.save_image.specs.Image.{Image, header_in}
use Rattle.slot_store.specs.declared.slots.Slot.{Slot}
use Rattle.slot_store.specs.declared.slots.Slot.TheVariants.{First, Second}
use Rattle.slot_store.specs.declared.headers.Reading.{Reading}
use Rattle.slot_store.specs.declared.headers.Reading.TheVariants as readings
use Rattle.slot_store.specs.declared.headers.Readings.{Readings}
use Rattle.slot_store.specs.declared.head.Head.{Head}
use Rattle.slot_store.specs.declared.restoring.RestoreError.{RestoreError}
use Rattle.slot_store.specs.declared.restoring.RestoreError.TheVariants as errors
use Rattle.slot_store.specs.declared.restoring.Restored.{Restored}
use Rattle.slot_store.specs.Slots.{SlotState, Closed, Broken, Full, slot_state, page_in, body_in, image_with, digest_fits, is_closed, other}
use Rattle.slot_store.specs.Outcomes.{Outcome, WrongSize, Damaged, NoImage, Found, chosen, restored, verdict_of}
use Rattle.save_image.specs.declared.page.TheConstants.{PAGE_LINES}

-- what a slot says of itself, with these lines, by its header page alone
abbrev pub claimed : Reading → List (List ℕ) → SlotState
claimed readings.Shut memory = Closed
claimed readings.Broken memory = Broken
claimed (readings.Image header) memory = Full (image_with header memory)

-- the digest that it says its lines have
abbrev pub digest_said : Reading → Option (List ℕ)
digest_said readings.Shut = None
digest_said readings.Broken = None
digest_said (readings.Image header) = header.digest

-- the version that it says it is of
abbrev pub version_said : Reading → Version
version_said reading = if is_some (digest_said reading) then Two else One

-- whether these lines have the digest that is said
abbrev pub is_sound : Reading → List (List ℕ) → Bool
is_sound reading memory = digest_fits (digest_said reading) memory

-- the slot that was read so, with these lines
abbrev pub told : Reading → List (List ℕ) → SlotState
told reading memory = if is_sound reading memory then claimed reading memory else Broken

-- the header of an open slot, as it was read, and as the bytes of the device have it
abbrev pub header_of_reading : Reading → Option Header
header_of_reading readings.Shut = None
header_of_reading readings.Broken = None
header_of_reading (readings.Image header) = Some header

abbrev pub header_in_page : ℕ → List ℕ → Option Header
header_in_page lines page = if slice_index page 0 == 0xA5 then header_in lines page else None

abbrev pub header_at : ℕ → Slot → List ℕ → Option Header
header_at lines slot bytes = header_in_page lines (page_in lines slot bytes)

abbrev pub in_slot : Readings → Slot → Reading
in_slot readings First = readings.first
in_slot readings Second = readings.second

-- both slots of these bytes were read so
pub record AreReadings (lines : ℕ) (bytes : List ℕ) (readings : Readings) : Type 0 where
  pub state : (slot : Slot) → slot_state lines slot bytes ≡ told (in_slot readings slot) (body_in lines slot bytes)
  pub header : (slot : Slot) → header_at lines slot bytes ≡ header_of_reading (in_slot readings slot)

-- how many pages of a slot with this header are read where only their digest is asked for: all, or none where there is no digest
abbrev pub pages_checked : ℕ → Option Header → ℕ
pages_checked lines (Some header) = if is_some header.digest then lines / PAGE_LINES else 0
pages_checked lines None = 0

-- the error for this outcome
abbrev pub NamesOutcome : RestoreError → Outcome → Type 0
NamesOutcome errors.NoImage outcome = outcome ≡ NoImage
NamesOutcome (errors.Damaged slot) outcome = outcome ≡ Damaged slot
NamesOutcome errors.WrongSize outcome = outcome ≡ WrongSize
NamesOutcome errors.Device outcome = ⊥
NamesOutcome errors.Memory outcome = ⊥

-- the same, where the device failed or memory was refused: no outcome is told then
abbrev pub Refuses : RestoreError → Outcome → Type 0
Refuses errors.Device outcome = ⊤
Refuses errors.Memory outcome = ⊤
Refuses error outcome = NamesOutcome error outcome

-- a fault of the device or want of memory
abbrev pub IsFailure : RestoreError → Type 0
IsFailure errors.Device = ⊤
IsFailure errors.Memory = ⊤
IsFailure error = ⊥

-- what lines that were read may be refused for, or a failure
abbrev pub IsOfBodies : RestoreError → Type 0
IsOfBodies errors.NoImage = ⊥
IsOfBodies errors.WrongSize = ⊥
IsOfBodies error = ⊤

-- what two headers that were read may be refused for, or a fault
abbrev pub IsOfHeaders : RestoreError → Type 0
IsOfHeaders errors.WrongSize = ⊥
IsOfHeaders errors.Memory = ⊥
IsOfHeaders error = ⊤

-- the device failed
abbrev pub is_fault : {T : Type 0} → Result T RestoreError → Bool
is_fault (Err errors.Device) = true
is_fault result = false

abbrev pub is_device : RestoreError → Bool
is_device errors.Device = true
is_device error = false

-- the first slot whose lines don't have their digest, by those of the newest image's slot and those of the other one
abbrev pub first_damaged : Bool → Bool → Option Slot
first_damaged false second = Some First
first_damaged true false = Some Second
first_damaged true true = None

abbrev pub damaged_of : Slot → Bool → Bool → Option Slot
damaged_of First here there = first_damaged here there
damaged_of Second here there = first_damaged there here

-- how many of these pages were read, or one that failed: none where the lines find no memory
abbrev pub pages_read : {T : Type 0} → ℕ → Result T RestoreError → ℕ
pages_read pages (Err errors.Memory) = 0
pages_read pages result = pages

-- the same where the other slot's pages are read too, if this is its header
abbrev pub reads_of_newest : {T : Type 0} → ℕ → Option Header → Result T RestoreError → ℕ
reads_of_newest lines behind (Err errors.Memory) = 0
reads_of_newest lines behind result = lines / PAGE_LINES + pages_checked lines behind

abbrev pub memory_in : Slot → List (List ℕ) → List (List ℕ) → List (List ℕ)
memory_in First one two = one
memory_in Second one two = two

abbrev pub state_other : Slot → SlotState → SlotState → SlotState
state_other First first second = second
state_other Second first second = first

-- the image with this head, arm byte and memory
abbrev pub image_of_head : Head → ℕ → List (List ℕ) → Image
image_of_head head arm memory = record { generation = head.newest.generation; count = head.count; arm = arm; memory = memory }

-- The head of the image that was found, with this memory: the verdict is that of its arm byte, and the other slot holds this.
pub record IsHeadOf (head : Head) (memory : List (List ℕ)) (found : Outcome) (behind : SlotState) : Type 0 where
  pub arm : ℕ
  pub newest : found ≡ Found head.newest.slot (image_of_head head arm memory)
  pub judged : head.verdict ≡ verdict_of arm head.count
  pub shut : head.closed ≡ is_closed behind

-- of two slots that say so, with their lines, the newest image's head or the error
abbrev pub IsChosen : Result Head RestoreError → List (List ℕ) → List (List ℕ) → SlotState → SlotState → Type 0
IsChosen (Ok head) one two first second =
    IsHeadOf head (memory_in head.newest.slot one two) (chosen first second) (state_other head.newest.slot first second)
IsChosen (Err error) one two first second = NamesOutcome error (chosen first second)

-- the image that was restored, with this arm byte
abbrev pub image_of_restored : Restored → ℕ → Image
image_of_restored it arm = image_of_head it.head arm it.lines.items

-- what was restored is the newest image
abbrev pub IsRestored : Restored → ℕ → List ℕ → Type 0
IsRestored it lines bytes = IsHeadOf it.head it.lines.items (restored lines bytes) (slot_state lines (other it.head.newest.slot) bytes)

-- the calls of a restore: a sync, and then the reads of both headers, and of each page
abbrev pub header_calls : List CallKind
header_calls = Sync ∷ Read ∷ Read ∷ []

abbrev pub restore_calls : ℕ → List CallKind
restore_calls lines = header_calls ++ replicate (lines / PAGE_LINES) Read

-- the calls of a restore that reads the pages of the other slot too, for their digest
abbrev pub checking_calls : ℕ → Option Header → List CallKind
checking_calls lines other = restore_calls lines ++ replicate (pages_checked lines other) Read

-- The calls of a restore with this answer: none where the length is wrong; the sync and both headers where they name no
-- image, or where the lines find no memory. Where an image is found, then also the pages of both slots, but for the older
-- image's where it has no digest. Where a slot is damaged, the same, or the first slot's pages alone where the headers
-- name no image. All these up to a fault. A sync that went well settled all.
abbrev pub CallsOfRestore : ℕ → Result Restored RestoreError → DeviceState → DeviceState → Type 0
CallsOfRestore lines (Ok restored) old new =
    MakesCalls (checking_calls lines (header_at lines (other restored.head.newest.slot) old.bytes)) true old.calls new.calls
    × IsSettled new
CallsOfRestore lines (Err errors.WrongSize) old new = new ≡ old
CallsOfRestore lines (Err errors.Device) old new =
    MakesCalls (restore_calls lines ++ replicate (lines / PAGE_LINES) Read) false old.calls new.calls
CallsOfRestore lines (Err (errors.Damaged slot)) old new =
    (MakesCalls (header_calls ++ replicate (pages_checked lines (header_at lines First old.bytes)) Read) true old.calls new.calls
    ⊎ ((behind : Slot) × MakesCalls (checking_calls lines (header_at lines behind old.bytes)) true old.calls new.calls))
    × IsSettled new
CallsOfRestore lines (Err error) old new = MakesCalls header_calls true old.calls new.calls × IsSettled new
