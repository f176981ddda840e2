-- A device between two saves: what it holds, and what a stop may make of it.
use Rattle.std.specs.Prelude.{◌≡◌, ◌≢◌, ◌⊎◌, ℕ, Bool, true, false, IsTrue, List, slice_index, Option, Some, None}
use Rattle.save_device.specs.Rows.{DiffersOnlyAt}
use Rattle.save_device.specs.Device.{DeviceState}
use Rattle.save_image.specs.Image.{Image}
use Rattle.slot_store.specs.declared.slots.Slot.{Slot}
use Rattle.slot_store.specs.Slots.{start_of, other, HasSize, slot_state, Full}
use Rattle.slot_store.specs.Outcomes.{Outcome, Found, restored}

-- The images that a stop may make the newest: the one in this slot, with any arm byte where one was written and isn't
-- settled, and one that was being saved in the other slot.
pub record Candidates : Type 0 where
  pub slot : Slot
  pub newest : Image
  pub any_arm : Bool
  pub saved : Option Image

-- this image alone
abbrev pub only : Slot → Image → Candidates
only slot image = record { slot = slot; newest = image; any_arm = false; saved = None }

-- this image with another arm byte
abbrev pub rearmed : Image → ℕ → Image
rearmed image arm = record { generation = image.generation; count = image.count; arm = arm; memory = image.memory }

-- this image with any arm byte
abbrev pub with_any_arm : Slot → Image → Candidates
with_any_arm slot image = record { slot = slot; newest = image; any_arm = true; saved = None }

-- the image with some arm byte, which is its own where only that one may stand
pub record IsRearmed (any_arm : Bool) (image : Image) (outcome : Outcome) (slot : Slot) : Type 0 where
  pub arm : ℕ
  pub own : any_arm ≡ false → arm ≡ image.arm
  pub found : outcome ≡ Found slot (rearmed image arm)

abbrev pub IsSaved : Option Image → Slot → Outcome → Type 0
IsSaved (Some image) slot outcome = outcome ≡ Found slot image
IsSaved None slot outcome = ⊥

-- a restore finds one of them
abbrev pub IsAmong : Candidates → Outcome → Type 0
IsAmong candidates outcome =
    IsRearmed candidates.any_arm candidates.newest outcome candidates.slot
    ⊎ IsSaved candidates.saved (other candidates.slot) outcome

-- it is among them, or this image that was being saved
abbrev pub IsAmongOr : Candidates → Slot → Image → Outcome → Type 0
IsAmongOr candidates slot image outcome = IsAmong candidates outcome ⊎ (outcome ≡ Found slot image)

-- A stop leaves what restores to one of the candidates, also while the gate of this slot is written, where it is not
-- known closed.
abbrev pub IsHarmless : Candidates → ℕ → Slot → Bool → DeviceState → Type 0
IsHarmless candidates lines slot closed state =
    (image : List ℕ)
    → DiffersOnlyAt (λ place. IsTrue (state.unsettled place) ⊎ ((closed ≡ false) × (place ≡ start_of lines slot))) state.bytes image
    → IsAmong candidates (restored lines image)

-- the gate of this slot is closed, and a stop leaves it so
pub record IsShut (lines : ℕ) (slot : Slot) (state : DeviceState) : Type 0 where
  pub shut : slice_index state.bytes (start_of lines slot) ≢ 0xA5
  pub fixed : ¬ IsTrue (state.unsettled (start_of lines slot))

-- A device between two saves: a read finds `newest` in `slot`, a stop leaves one of the candidates, and where the other
-- slot counts as closed its gate is closed and settled. The next save goes to the other slot.
pub record IsAtRest (candidates : Candidates) (newest : Image) (slot : Slot) (lines : ℕ) (closed : Bool) (state : DeviceState) : Type 0 where
  pub size : HasSize lines state
  pub full : slot_state lines slot state.bytes ≡ Full newest
  pub harmless : IsHarmless candidates lines (other slot) closed state
  pub shut : closed ≡ true → IsShut lines (other slot) state

-- at rest on this image alone
abbrev pub IsAtRestOn : Slot → Image → ℕ → Bool → DeviceState → Type 0
IsAtRestOn slot image lines closed state = IsAtRest (only slot image) image slot lines closed state

-- at rest on this image with some arm byte, and a stop may leave any
pub record IsAtRestRearmed (slot : Slot) (image : Image) (lines : ℕ) (closed : Bool) (state : DeviceState) : Type 0 where
  pub arm : ℕ
  pub rest : IsAtRest (with_any_arm slot image) (rearmed image arm) slot lines closed state

-- At rest on the old image after a save that failed: a stop leaves one of the candidates or the image that was being saved.
pub record IsAtRestStill (candidates : Candidates) (old : Image) (slot : Slot) (made : Image) (lines : ℕ) (closed : Bool) (state : DeviceState) : Type 0 where
  pub left : Candidates
  pub rest : IsAtRest left old slot lines closed state
  pub among : (outcome : Outcome) → IsAmong left outcome → IsAmongOr candidates (other slot) made outcome
