-- What formatting leaves.
use Rattle.std.specs.Prelude.{◌≡◌, ◌≢◌, ℕ, ◌<◌, true, List, length, slice_index, slice_range}
use Rattle.save_image.specs.Image.{image_bytes}
use Rattle.save_image.specs.declared.reading.Version.TheVariants.{Two}
use Rattle.slot_store.specs.Slots.{slot_size}
use Rattle.slot_store.specs.declared.head.Head.{Head}
use Rattle.slot_store.specs.declared.restoring.Verdict.TheVariants.{Complete}
use Rattle.slot_store.specs.declared.slots.Slot.TheVariants.{First}
use Rattle.slot_store.specs.Outcomes.{first_image}

-- the head of the image that formatting makes
abbrev pub first_head : Head
first_head = record { newest = record { slot = First; generation = 1 }; count = 0; closed = true; verdict = Complete }

-- the gates of both slots are closed, and the rest is as it was
pub record HasShutGates (lines : ℕ) (old new : List ℕ) : Type 0 where
  pub size : length new ≡ length old
  pub first : slice_index new 0 ≡ 0
  pub second : slice_index new (slot_size lines) ≡ 0
  pub rest : (k : ℕ) → k ≢ 0 → k ≢ slot_size lines → slice_index new k ≡ slice_index old k

-- the first slot is the first image in version 2, byte by byte, the gate of the second one is closed, and its rest is as it was
pub record IsFormatted (lines : ℕ) (old new : List ℕ) : Type 0 where
  pub size : length new ≡ length old
  pub first : slice_range new 0 (slot_size lines) ≡ image_bytes lines Two (first_image lines)
  pub second : slice_index new (slot_size lines) ≡ 0
  pub rest : (k : ℕ) → slot_size lines < k → slice_index new k ≡ slice_index old k
