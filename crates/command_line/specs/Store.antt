-- Stores, by their size and by what they restore to, and how they are shown.
use Rattle.std.specs.Prelude.{◌≡◌, ◌⊎◌, ◌↔◌, ℕ, ◌+◌, Bool, true, false, List, [], ◌∷◌, length, replicate, if◌then◌else◌}
use Rattle.std.specs.List.{flat_map, range_with_len}
use Rattle.std.specs.Process.{exit_status}
use Rattle.std.specs.Str.{bytes_eq}
use Rattle.std.specs.declared.process.ExitCode.{ExitCode}
use Rattle.line_memory.specs.Memory.{line_of}
use Rattle.line_memory.specs.declared.line.TheConstants.{LINE_BYTES}
use Rattle.save_image.specs.Image.{Image}
use Rattle.slot_store.specs.declared.restoring.RestoreError.{RestoreError}
use Rattle.slot_store.specs.declared.restoring.RestoreError.TheVariants as errors
use Rattle.slot_store.specs.declared.slots.Slot.{Slot}
use Rattle.slot_store.specs.Slots.{IsCapacity, device_size}
use Rattle.slot_store.specs.Outcomes.{restored, verdict_of, Found}
use Rattle.slot_store.specs.Told.{NamesOutcome}
use Rattle.nv_script.specs.declared.answer.Answer.{Answer}
use Rattle.nv_script.specs.declared.answer.Answer.TheVariants as answer
use Rattle.sector_device.specs.Spare.{spare_size}
use Rattle.store_file.specs.Stores.{device_in}

-- a store of so many bytes holds images of so many lines
abbrev pub IsStoreOf : ℕ → ℕ → Type 0
IsStoreOf size lines = IsCapacity lines × (device_size lines ≡ size)

-- no number of lines makes stores of that size
abbrev pub HasNoLines : ℕ → Type 0
HasNoLines size = (lines : ℕ) → ¬ IsStoreOf size lines

-- the bytes are a store's, from which an image is restored
abbrev pub HoldsImage : List ℕ → Type 0
HoldsImage bytes = (lines : ℕ) × (slot : Slot) × (image : Image)
    × IsStoreOf (length bytes) lines × (restored lines bytes ≡ Found slot image)

-- a line is shown by its bytes, unless they are all zero
abbrev pub content_of : ℕ → List ℕ → List Answer
content_of line bytes = if bytes_eq bytes (replicate LINE_BYTES 0) then [] else answer.Content line bytes ∷ []

-- what is shown of the first lines of a memory, so many
abbrev pub shown_lines : List (List ℕ) → ℕ → List Answer
shown_lines memory lines = flat_map (λ line. content_of line (line_of memory line)) (range_with_len 0 lines)

-- The image that is restored from a store is told, and each of its lines that isn't all zero.
pub record ShowsImage (bytes : List ℕ) (answers : List Answer) : Type 0 where
  pub lines : ℕ
  pub size : IsStoreOf (length bytes) lines
  pub slot : Slot
  pub image : Image
  pub finds : restored lines bytes ≡ Found slot image
  pub told : answers ≡ answer.Restored image.generation image.count (verdict_of image.arm image.count) ∷ shown_lines image.memory lines

-- why no image is restored from a store: no store has its size, or what is restored from one of so many lines
abbrev pub IsRefusalOf : List ℕ → RestoreError → Type 0
IsRefusalOf bytes error =
    (HasNoLines (length bytes) × (error ≡ errors.WrongSize)) ⊎ ((lines : ℕ) × IsStoreOf (length bytes) lines × NamesOutcome error (restored lines bytes))

-- this is told of a store: an image that it holds, or why there is none
abbrev pub TellsStore : List ℕ → Bool → List Answer → Type 0
TellsStore bytes true answers = ShowsImage bytes answers
TellsStore bytes false answers = (error : RestoreError) × IsRefusalOf bytes error × (answers ≡ answer.RestoreRefused error ∷ [])

-- a spare place stands behind the bytes of a device, so many
abbrev pub HasSpare : ℕ → List ℕ → Type 0
HasSpare size store = length store ≡ size + spare_size

-- The device that a store has: where a spare place stands behind those of a device, what an opening finds by it, and else all its bytes.
pub record IsDeviceOf (store device : List ℕ) : Type 0 where
  pub spare : (size lines : ℕ) → IsStoreOf size lines → HasSpare size store → device ≡ device_in size store
  pub bare : ((size : ℕ) → HasSpare size store → HasNoLines size) → device ≡ store

-- the status is 0 exactly where the device of the store that is given for a word holds an image
pub record ShowsNamed (gives : List ℕ → List ℕ → Type 0) (word : List ℕ) (code : ExitCode) : Type 0 where
  pub store : List ℕ
  pub of_store : gives word store
  pub device : List ℕ
  pub of_device : IsDeviceOf store device
  pub status : (exit_status code ≡ 0) ↔ HoldsImage device
