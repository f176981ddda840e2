-- What the bytes of a device restore to.
use Rattle.std.specs.Prelude.{◌==◌, ℕ, List, length, nat_lt, if◌then◌else◌}
use Rattle.line_memory.specs.Memory.{zero_lines}
use Rattle.save_image.specs.Image.{Image}
use Rattle.slot_store.specs.declared.slots.Slot.{Slot}
use Rattle.slot_store.specs.declared.slots.Slot.TheVariants.{First, Second}
use Rattle.slot_store.specs.declared.restoring.Verdict.{Verdict}
use Rattle.slot_store.specs.declared.restoring.Verdict.TheVariants.{Complete, PossibleLoss}
use Rattle.slot_store.specs.Slots.{SlotState, Closed, Broken, Full, slot_state, device_size}

-- the device has another size; a slot is open and no image, or a second one of the same generation; no slot is open; or
-- the newest image and its slot
pub data Outcome : Type 0 where
  WrongSize : Outcome
  Damaged : Slot → Outcome
  NoImage : Outcome
  Found : Slot → Image → Outcome

-- of two images in the two slots, the one of the greater generation
abbrev pub newer : Image → Image → Outcome
newer first second =
    if first.generation == second.generation then Damaged Second
    else if nat_lt first.generation second.generation then Found Second second
    else Found First first

-- what two slots restore to
abbrev pub chosen : SlotState → SlotState → Outcome
chosen Broken second = Damaged First
chosen Closed Broken = Damaged Second
chosen Closed Closed = NoImage
chosen Closed (Full second) = Found Second second
chosen (Full first) Broken = Damaged Second
chosen (Full first) Closed = Found First first
chosen (Full first) (Full second) = newer first second

-- what the bytes of a device restore to, where images have so many lines
unfoldable pub restored : ℕ → List ℕ → Outcome
restored lines bytes =
    if length bytes == device_size lines then chosen (slot_state lines First bytes) (slot_state lines Second bytes)
    else WrongSize

-- what an image's arm byte says of the writes behind it
abbrev pub verdict_of : ℕ → ℕ → Verdict
verdict_of arm count = if arm == 0 then Complete else PossibleLoss count

-- the image that formatting makes
abbrev pub first_image : ℕ → Image
first_image lines = record { generation = 1; count = 0; arm = 0; memory = zero_lines lines }
