-- What a whole save is made over, and what it makes.
use Rattle.std.specs.Prelude.{◌≡◌, ◌⊎◌, ℕ, ◌+◌, Bool, List, length}
use Rattle.save_device.specs.Device.{DeviceState}
use Rattle.save_image.specs.Header.{arm_byte}
use Rattle.save_image.specs.Image.{Image}
use Rattle.slot_store.specs.declared.slots.Slot.{Slot}
use Rattle.slot_store.specs.declared.plan.Newest.{Newest}
use Rattle.slot_store.specs.Slots.{other}
use Rattle.slot_store.specs.Outcomes.{Found, restored}
use Rattle.slot_store.specs.Rest.{Candidates, IsAtRest}

-- the device is at rest on this image, of this slot and generation, for a save of a memory of this size
pub record IsReady (candidates : Candidates) (old : Image) (newest : Newest) (closed : Bool) (memory : List (List ℕ)) (state : DeviceState) : Type 0 where
  pub rest : IsAtRest candidates old newest.slot (length memory) closed state
  pub generation : old.generation ≡ newest.generation

-- the image that a save of this memory over the newest one makes
abbrev pub made_over : Newest → ℕ → Bool → List (List ℕ) → Image
made_over newest count armed memory =
    record { generation = newest.generation + 1; count = count; arm = arm_byte armed; memory = memory }

-- a restore finds the old image in its slot, or the new one in the other
abbrev pub FindsOldOrNew : Slot → Image → Image → List ℕ → Type 0
FindsOldOrNew slot old new image =
    (restored (length new.memory) image ≡ Found slot old) ⊎ (restored (length new.memory) image ≡ Found (other slot) new)
