-- What a life begins with.
use Rattle.std.specs.Prelude.{◌≡◌, ℕ, List, true, Ok, Err, ⊤}
use Rattle.save_device.specs.Calls.{MakesCalls}
use Rattle.save_device.specs.Device.{DeviceState}
use Rattle.save_image.specs.Image.{Image}
use Rattle.slot_store.specs.Formatted.{first_head}
use Rattle.slot_store.specs.Outcomes.{Found, NoImage, Outcome, first_image, restored}
use Rattle.slot_store.specs.Rest.{IsAtRestOn}
use Rattle.slot_store.specs.Steps.{format_calls}
use Rattle.slot_store.specs.Told.{CallsOfRestore, Refuses}
use Rattle.slot_store.specs.declared.restoring.RestoreError.TheVariants as errors
use Rattle.slot_store.specs.declared.restoring.Restored.{Restored}
use Rattle.channel_port.specs.declared.port.ChannelPort.{Ghosts}
use Rattle.module_core.specs.Opening.{opened_with}
use Rattle.module_core.specs.Stands.{Assembly, ModuleStands}
use Rattle.nv_session.specs.Restoring.{Revives}
use Rattle.open_life.specs.declared.opening.Found as found
use Rattle.open_life.specs.declared.opening.Found.TheVariants as founds
use Rattle.open_life.specs.declared.opening.OpenFault.{OpenFault}
use Rattle.open_life.specs.declared.opening.OpenFault.TheVariants as fault

-- a device is at rest on what was restored, where that is the newest image of its bytes
abbrev pub RestsOn : Restored → ℕ → DeviceState → Type 0
RestsOn it lines device =
    (image : Image) → restored lines device.bytes ≡ Found it.head.newest.slot image → IsAtRestOn it.head.newest.slot image lines it.head.closed device

-- the fault of an opening on a device that restores so; formatted is only one that holds no image
abbrev pub IsRefusedFor : Outcome → OpenFault → Type 0
IsRefusedFor outcome (fault.Restore error) = Refuses error outcome
IsRefusedFor outcome fault.Format = outcome ≡ NoImage
IsRefusedFor outcome fault.Memory = ⊤

-- the fault of an opening that formats its device
abbrev pub IsOfFormat : OpenFault → Type 0
IsOfFormat (fault.Restore error) = ⊥
IsOfFormat fault.Format = ⊤
IsOfFormat fault.Memory = ⊤

-- The device had the calls of one restore, which read the image with this head; or of one that found none, and then of one format.
abbrev pub HadOpeningCalls : ℕ → found.Found → DeviceState → DeviceState → Type 0
HadOpeningCalls lines (founds.Restored head) old new = (it : Restored) × (it.head ≡ head) × CallsOfRestore lines (Ok it) old new
HadOpeningCalls lines founds.Formatted old new =
    (restored : DeviceState) × CallsOfRestore lines (Err errors.NoImage) old restored × MakesCalls (format_calls lines) true restored.calls new.calls

module _ {K : Type 0} (L : Ghosts K) where
  -- a new life of zero lines
  abbrev pub BeginsNew : ℕ → Assembly L → Type 0
  BeginsNew lines life = ModuleStands L life.it life.device (opened_with first_head (first_image lines))

  -- The life that began, of a device that had these bytes: where they restored to an image it has that, and the bytes stay; else
  -- they held none, and it has the image that formatting makes.
  abbrev pub Begins : ℕ → found.Found → List ℕ → Assembly L → Type 0
  Begins lines (founds.Restored head) bytes life = Revives L (restored lines bytes) head life.it life.device × (life.device.bytes ≡ bytes)
  Begins lines founds.Formatted bytes life = (restored lines bytes ≡ NoImage) × BeginsNew lines life
