-- Where the two slots of a device lie, and what each one holds.
use Rattle.std.specs.Prelude.{◌≡◌, ◌==◌, ℕ, ◌+◌, ◌*◌, ◌%◌, ◌≤◌, Bool, true, false, List, drop, length, slice_index, slice_range, Option, Some, None, if◌then◌else◌}
use Rattle.line_memory.specs.declared.line.TheConstants.{LINE_BYTES}
use Rattle.save_device.specs.Device.{DeviceState}
use Rattle.save_image.specs.declared.reading.Header.{Header}
use Rattle.save_image.specs.Body.{lines_in}
use Rattle.std.specs.Str.{bytes_eq}
use Rattle.save_image.specs.Image.{Image, header_in, digest_of}
use Rattle.slot_store.specs.declared.slots.Slot.{Slot}
use Rattle.slot_store.specs.declared.slots.Slot.TheVariants.{First, Second}
use Rattle.save_image.specs.declared.page.TheConstants.{PAGE_BYTES, PAGE_LINES}
use Rattle.slot_store.specs.declared.slots.TheConstants.{MOST_LINES}

-- a number of lines that a memory may have: whole pages, 1,024 of them at most
pub record IsCapacity (lines : ℕ) : Type 0 where
  pub some : PAGE_LINES ≤ lines
  pub most : lines ≤ MOST_LINES
  pub whole : lines % PAGE_LINES ≡ 0

-- the bytes of a slot: a header and the lines
abbrev pub slot_size : ℕ → ℕ
slot_size lines = PAGE_BYTES + LINE_BYTES * lines

-- the bytes of a device: two slots
abbrev pub device_size : ℕ → ℕ
device_size lines = 2 * slot_size lines

-- a device has that size
abbrev pub HasSize : ℕ → DeviceState → Type 0
HasSize lines state = length state.bytes ≡ device_size lines

abbrev pub start_of : ℕ → Slot → ℕ
start_of lines First = 0
start_of lines Second = slot_size lines

abbrev pub other : Slot → Slot
other First = Second
other Second = First

-- What a slot holds: nothing behind a gate that isn't open, an image, or bytes that are no image behind an open gate.
pub data SlotState : Type 0 where
  Closed : SlotState
  Broken : SlotState
  Full : Image → SlotState

-- the header page of a slot
abbrev pub page_in : ℕ → Slot → List ℕ → List ℕ
page_in lines slot bytes = slice_range bytes (start_of lines slot) (start_of lines slot + PAGE_BYTES)

-- the lines that stand in a slot
abbrev pub body_in : ℕ → Slot → List ℕ → List (List ℕ)
body_in lines slot bytes = lines_in lines (drop (start_of lines slot + PAGE_BYTES) bytes)

-- the image with this header and these lines
abbrev pub image_with : Header → List (List ℕ) → Image
image_with header memory = record { generation = header.generation; count = header.count; arm = header.arm; memory = memory }

-- a header's digest, where it has one, is that of these lines
abbrev pub digest_fits : Option (List ℕ) → List (List ℕ) → Bool
digest_fits None memory = true
digest_fits (Some digest) memory = bytes_eq digest (digest_of memory)

-- an open slot with this header, if it is one, and these lines
abbrev pub opened : Option Header → List (List ℕ) → SlotState
opened (Some header) memory = if digest_fits header.digest memory then Full (image_with header memory) else Broken
opened None memory = Broken

-- a slot with this header page and these lines: the gate, byte 0, is open where it is 0xA5
abbrev pub slot_with : ℕ → List ℕ → List (List ℕ) → SlotState
slot_with lines page memory = if slice_index page 0 == 0xA5 then opened (header_in lines page) memory else Closed

-- what a slot holds, of the bytes of the device
unfoldable pub slot_state : ℕ → Slot → List ℕ → SlotState
slot_state lines slot bytes = slot_with lines (page_in lines slot bytes) (body_in lines slot bytes)

-- its gate isn't open
abbrev pub is_closed : SlotState → Bool
is_closed Closed = true
is_closed Broken = false
is_closed (Full image) = false
