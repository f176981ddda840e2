-- What a restore makes of a save, and of a life that was stopped at any time.
use Rattle.std.specs.Prelude.{◌≡◌, ◌≢◌, ℕ, ◌≤◌, false, List, MatchOption}
use Rattle.save_device.specs.Device.{DeviceState, present, StopsWithin}
use Rattle.save_image.specs.Image.{Image}
use Rattle.slot_store.specs.declared.head.Head.{Head}
use Rattle.slot_store.specs.declared.restoring.Verdict.TheVariants.{Complete}
use Rattle.slot_store.specs.declared.restoring.RestoreError.{RestoreError}
use Rattle.slot_store.specs.Outcomes.{Outcome, restored, verdict_of}
use Rattle.slot_store.specs.Outcomes as outcome
use Rattle.slot_store.specs.Told.{IsFailure}
use Rattle.channel_port.specs.declared.port.ChannelPort.{Ghosts}
use Rattle.nv_machine.specs.State.{Setup, Machine}
use Rattle.nv_machine.specs.Guard.{IsPrefix, HasCause, would_lose_acknowledged}
use Rattle.nv_machine.specs.Headline.{RecoversAfterwards}
use Rattle.module_core.specs.declared.module.Module.{Module}
use Rattle.module_core.specs.Opening.{opened_with}
use Rattle.module_core.specs.Stands.{ModuleStands}
use Rattle.nv_session.specs.Living.{SessionAt, RunsWith}

-- what is told of an image is its numbers and its verdict
pub record TellsImage (found : Head) (image : Image) : Type 0 where
  pub generation_is : found.newest.generation ≡ image.generation
  pub count_is : found.count ≡ image.count
  pub verdict_is : found.verdict ≡ verdict_of image.arm image.count

-- The image's memory is the one after the first writes of those that a machine had accepted. Complete, it holds each write that
-- was persistent; where nothing could be lacking it does whatever is told; and where it isn't complete there was a cause.
pub record TellsPrefix (m : Machine) (found : Head) (image : Image) : Type 0 where
  pub tells : TellsImage found image
  pub prefix : IsPrefix m image
  pub complete : found.verdict ≡ Complete → m.life.persisted ≤ found.count
  pub holds_all : would_lose_acknowledged m ≡ false → m.life.persisted ≤ found.count
  pub cause : found.verdict ≢ Complete → HasCause m image

-- whatever a stop leaves of the device, it is what a stop left after this machine
abbrev pub IsLeftBy : ℕ → Machine → DeviceState → Type 0
IsLeftBy lines m device = StopsWithin (λ bytes. RecoversAfterwards m (restored lines bytes)) (present device)

module _ {K : Type 0} (L : Ghosts K) where
  -- a life began with the image that the bytes of a device restore to
  pub record Revives (restores : Outcome) (found : Head) (it : Module K L) (device : DeviceState) : Type 0 where
    pub image : Image
    pub finds : restores ≡ outcome.Found found.newest.slot image
    pub tells : TellsImage found image
    pub stands : ModuleStands L it device (opened_with found image)

  -- a restore found such an image, and the life that it began is new with it
  pub record FindsPrefix (m : Machine) (found : Head) (it : Module K L) (device : DeviceState) : Type 0 where
    pub image : Image
    pub stands : ModuleStands L it device (opened_with found image)
    pub tells : TellsPrefix m found image

  -- The life that runs stands for this machine; where none runs, the device is left by it.
  abbrev pub GoesBackTo : ℕ → SessionAt L → Machine → Type 0
  GoesBackTo lines at m = MatchOption at.life (IsLeftBy lines m at.device) (λ it. ModuleStands L it at.device m)

  -- such an image of each machine that the life before, or the device at rest, was of; and the new life has this setup
  abbrev pub FindsPrefixOf : ℕ → Setup → SessionAt L → Head → SessionAt L → Type 0
  FindsPrefixOf lines setup old found new =
      (m : Machine) → GoesBackTo lines old m → RunsWith L setup (λ it. FindsPrefix m found it new.device) new.life

  -- Refused, it leaves the device to each of them, and it was refused for a failure.
  pub record KeepsPrefixOf (lines : ℕ) (old : SessionAt L) (error : RestoreError) (new : SessionAt L) : Type 0 where
    pub leaves : (m : Machine) → GoesBackTo lines old m → IsLeftBy lines m new.device
    pub fails : (m : Machine) → GoesBackTo lines old m → IsFailure error

  -- A restore found an image of this generation and count, complete, and the life that it began is new with this memory.
  pub record FindsSaved (generation count : ℕ) (memory : List (List ℕ)) (found : Head) (it : Module K L) (device : DeviceState) : Type 0 where
    pub generation_is : found.newest.generation ≡ generation
    pub count_is : found.count ≡ count
    pub complete : found.verdict ≡ Complete
    pub image : Image
    pub stands : ModuleStands L it device (opened_with found image)
    pub memory_is : image.memory ≡ memory
