-- What a stop may leave of a device, read from its bytes and from those that a stop made known.
use Rattle.std.specs.Prelude.{◌≡◌, ◌==◌, ℕ, ◌<◌, List, length, if◌then◌else◌, not, slice_index}
use Rattle.save_device.specs.Memory.{state_of}
use Rattle.save_device.specs.declared.memory.MemoryDevice.{MemoryDevice}
use Rattle.crash_table.specs.declared.left.Left.{Left}

-- its bytes, and another byte in just the unsettled places of them
pub record IsLeftOf (device : MemoryDevice) (left : Left) : Type 0 where
  pub bytes : left.bytes.items ≡ (state_of device).bytes
  pub tells : (place : ℕ) → place < length left.bytes.items
      → (state_of device).unsettled place ≡ not (slice_index left.torn.items place == slice_index left.bytes.items place)

-- no place is unsettled
abbrev pub IsSettledIn : Left → Type 0
IsSettledIn left = left.torn.items ≡ left.bytes.items

-- this byte is in each unsettled place, and what stood there in the others
pub record IsTornTo (byte : ℕ) (left : Left) (image : List ℕ) : Type 0 where
  pub size : length image ≡ length left.bytes.items
  pub each : (place : ℕ) → place < length left.bytes.items
      → slice_index image place ≡ (if slice_index left.torn.items place == slice_index left.bytes.items place then slice_index left.bytes.items place else byte)
