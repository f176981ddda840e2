-- What a stop of a device in memory is told to leave.
use Rattle.std.specs.Prelude.{◌≡◌, ℕ, ◌<◌, List, length, Bool, if◌then◌else◌, slice_index}
use Rattle.save_device.specs.declared.memory.Pick.{Pick}
use Rattle.save_device.specs.declared.memory.Pick.TheVariants.{Old, New, Torn}

-- the byte of an unsettled place after a stop, of the one at the last sync and the one now
abbrev pub picked : Pick → ℕ → ℕ → ℕ
picked Old settled now = settled
picked New settled now = now
picked (Torn byte) settled now = byte

-- the image has the picked byte in each unsettled place, and what stood there in the others
abbrev pub IsPickedFrom : Pick → List ℕ → (ℕ → Bool) → List ℕ → List ℕ → Type 0
IsPickedFrom pick settled unsettled row image =
    (place : ℕ) → place < length row
    → slice_index image place
    ≡ (if unsettled place then picked pick (slice_index settled place) (slice_index row place) else slice_index row place)
