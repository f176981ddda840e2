-- What contracts know of a file.
use Rattle.std.specs.Prelude.{◌≡◌, ◌⊎◌, ℕ, ◌+◌, Bool, false, IsTrue, List, length, slice_range, Option, Some, None, ⊤}
use Rattle.std.specs.Bool.{OnTrue}
use Rattle.save_device.specs.Flags.{IsUp}
use Rattle.save_device.specs.Rows.{IsInRange, overwritten, DiffersOnlyAt}
use Rattle.save_device.specs.Device.{Moment, DeviceState, MayLeave}

-- A file at a moment: the bytes that a read gives, the places that a stop may leave as anything, and the stale ones, which a
-- flush needn't settle, since a call on them failed and nothing was put there again.
pub record Kept : Type 0 where
  pub bytes : List ℕ
  pub unsettled : ℕ → Bool
  pub stale : ℕ → Bool

-- where something is known of the file, P
abbrev pub IfKept : (Kept → Type 0) → Option Kept → Type 0
IfKept P file = (kept : Kept) → file ≡ Some kept → P kept

-- where something is known of the file before, something is known after, and P
abbrev pub BothKept : (Kept → Kept → Type 0) → Option Kept → Option Kept → Type 0
BothKept P (Some old) (Some new) = P old new
BothKept P (Some old) None = ⊥
BothKept P None (Some new) = ⊥
BothKept P None None = ⊤

-- as a device sees it
abbrev pub moment_of_file : Kept → Moment
moment_of_file kept = record { bytes = kept.bytes; unsettled = kept.unsettled }

-- a stop may leave this image of the file
abbrev pub FileMayLeave : Kept → List ℕ → Type 0
FileMayLeave kept image = MayLeave (moment_of_file kept) image

-- a stop within a write of n bytes at this place may leave this image of the file
abbrev pub MayLeaveWithin : ℕ → ℕ → Kept → List ℕ → Type 0
MayLeaveWithin at n kept image = DiffersOnlyAt (λ place. IsTrue (kept.unsettled place) ⊎ IsInRange at n place) kept.bytes image

-- All is on the disk.
pub record IsAtRest (kept : Kept) : Type 0 where
  pub settled : (place : ℕ) → ¬ IsTrue (kept.unsettled place)
  pub fresh : (place : ℕ) → ¬ IsTrue (kept.stale place)

-- One write, which went well or not. Its range is stale after it exactly where it failed, and a read may give anything at stale places.
pub record Puts (at : ℕ) (bytes : List ℕ) (good : Bool) (old new : Kept) : Type 0 where
  pub done : OnTrue good (DiffersOnlyAt (λ place. IsTrue (new.stale place)) (overwritten old.bytes at bytes) new.bytes)
  pub outside : DiffersOnlyAt (λ place. IsTrue (new.stale place) ⊎ IsInRange at (length bytes) place) old.bytes new.bytes
  pub unsettled : (place : ℕ) → IsTrue (new.unsettled place) → IsTrue (old.unsettled place) ⊎ IsInRange at (length bytes) place
  pub stale : (place : ℕ) → IsTrue (new.stale place) → IsTrue (old.stale place) ⊎ IsInRange at (length bytes) place
  pub renewed : OnTrue good ((place : ℕ) → IsInRange at (length bytes) place → ¬ IsTrue (new.stale place))

-- n bytes that a device has from a place on were put there, which went well or not
abbrev pub PutsOut : ℕ → ℕ → DeviceState → Bool → Kept → Kept → Type 0
PutsOut at n state good old new = Puts at (slice_range state.bytes at (at + n)) good old new

-- One flush, which went well or not. It settles all but the stale places, and where it failed, all that wasn't settled may be stale.
pub record Flushes (good : Bool) (old new : Kept) : Type 0 where
  pub bytes : DiffersOnlyAt (λ place. IsTrue (new.stale place)) old.bytes new.bytes
  pub unsettled : (place : ℕ) → IsTrue (new.unsettled place) → IsTrue (old.unsettled place)
  pub settled : OnTrue good ((place : ℕ) → IsTrue (new.unsettled place) → IsTrue (new.stale place))
  pub stale : (place : ℕ) → IsTrue (new.stale place) → IsTrue (old.stale place) ⊎ ((good ≡ false) × IsTrue (old.unsettled place))

-- no place of the file is stale, and it has the device's bytes
pub record IsCurrent (state : DeviceState) (kept : Kept) : Type 0 where
  pub fresh : (place : ℕ) → ¬ IsTrue (kept.stale place)
  pub same : kept.bytes ≡ state.bytes

-- The file backs a device with this state: a stop leaves of it only what one may leave of the device. And where it isn't behind,
-- a flush makes all durable.
pub record BacksWhole (behind : Bool) (state : DeviceState) (kept : Kept) : Type 0 where
  pub within : (place : ℕ) → IsTrue (kept.unsettled place) → IsTrue (state.unsettled place)
  pub stale : (place : ℕ) → IsTrue (kept.stale place) → IsTrue (state.unsettled place)
  pub outside : DiffersOnlyAt (λ place. IsTrue (state.unsettled place)) state.bytes kept.bytes
  pub current : behind ≡ false → IsCurrent state kept

abbrev pub Backs : Bool → DeviceState → Option Kept → Type 0
Backs behind state file = IfKept (BacksWhole behind state) file

-- these flags are up at the unsettled places
pub record Marks (flags : List Bool) (state : DeviceState) : Type 0 where
  pub size : length flags ≡ length state.bytes
  pub up : (place : ℕ) → IsUp flags place → IsTrue (state.unsettled place)
  pub all : (place : ℕ) → IsTrue (state.unsettled place) → IsUp flags place

-- the file has the device's bytes on the disk
pub record IsSaved (state : DeviceState) (kept : Kept) : Type 0 where
  pub rest : IsAtRest kept
  pub same : kept.bytes ≡ state.bytes
