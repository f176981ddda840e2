-- The bytes of a device in a store.
use Rattle.std.specs.Prelude.{◌≡◌, ◌==◌, ◌⊎◌, ℕ, List, length, Option, Some, if◌then◌else◌}
use Rattle.sector_device.specs.Backing.{IsFileSize}
use Rattle.sector_device.specs.Spare.{found_in}

-- where it is known what a store has, P
abbrev pub IfHas : (List ℕ → Type 0) → Option (List ℕ) → Type 0
IfHas P store = (bytes : List ℕ) → store ≡ Some bytes → P bytes

-- the bytes of a device of so many: all that the store has, or what an opening finds by the spare place
abbrev pub device_in : ℕ → List ℕ → List ℕ
device_in size bytes = if length bytes == size then bytes else found_in size bytes

-- a store of so many bytes has a device of this size: just its bytes, or with a spare place behind them
abbrev pub IsStoreSize : ℕ → ℕ → Type 0
IsStoreSize size store = (store ≡ size) ⊎ IsFileSize size store
