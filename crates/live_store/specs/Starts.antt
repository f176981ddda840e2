-- What a life begins with.
use Rattle.std.specs.Prelude.{◌≡◌, ℕ, ◌+◌, ◌-◌, ◌<◌, List, slice_index, Ok}
use Rattle.save_device.specs.Device.{DeviceState}
use Rattle.save_image.specs.Image.{Image}
use Rattle.slot_store.specs.declared.head.Head.{Head}
use Rattle.slot_store.specs.Formatted.{first_head}
use Rattle.slot_store.specs.Outcomes.{Found, NoImage, first_image, restored}
use Rattle.slot_store.specs.Rest.{IsAtRestOn}
use Rattle.slot_store.specs.declared.restoring.Restored.{Restored}
use Rattle.slot_store.specs.Slots.{slot_size}
use Rattle.channel_port.specs.declared.port.ChannelPort.{Ghosts}
use Rattle.module_core.specs.Opening.{opened_with}
use Rattle.module_core.specs.Stands.{Assembly, ModuleStands}
use Rattle.nv_session.specs.Restoring.{Revives}
use Rattle.nv_script.specs.declared.answer.Answer.{Answer}
use Rattle.nv_script.specs.declared.answer.Answer.TheVariants as answer
use Rattle.script_runner.specs.Replies.{restore_told}

-- n bytes from a place on are zero
abbrev pub HasZeros : ℕ → ℕ → List ℕ → Type 0
HasZeros at n bytes = (k : ℕ) → k < n → slice_index bytes (at + k) ≡ 0

-- Behind its gate the second slot, to which the first save goes, has zeros alone: no save has ended on these bytes.
abbrev pub IsUnused : ℕ → List ℕ → Type 0
IsUnused lines bytes = HasZeros (slot_size lines + 1) (slot_size lines - 1) bytes

-- a device is at rest on what was restored, where that is the newest image of its bytes
abbrev pub RestsOn : Restored → ℕ → DeviceState → Type 0
RestsOn it lines device =
    (image : Image) → restored lines device.bytes ≡ Found it.head.newest.slot image → IsAtRestOn it.head.newest.slot image lines it.head.closed device

module _ {K : Type 0} (L : Ghosts K) where
  -- The life that began, of a device that had these bytes: where they restored to an image it has that, and the bytes stay; else
  -- they held none, and no save had ended on them, and it has the image that formatting makes. The answer tells which.
  abbrev pub Begins : ℕ → Answer → List ℕ → Assembly L → Type 0
  Begins lines answer.Formatted bytes life =
      (restored lines bytes ≡ NoImage) × IsUnused lines bytes × ModuleStands L life.it life.device (opened_with first_head (first_image lines))
  Begins lines (answer.Restored generation count verdict) bytes life =
      (found : Head) × (answer.Restored generation count verdict ≡ restore_told (Ok found)) × Revives L (restored lines bytes) found life.it life.device × (life.device.bytes ≡ bytes)
  Begins lines other bytes life = ⊥
