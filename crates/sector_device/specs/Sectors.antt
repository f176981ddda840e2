-- Files that are written sector by sector.
use Rattle.std.specs.Prelude.{◌≡◌, ◌⊎◌, ℕ, ◌-◌, ◌*◌, Bool, true, false, IsTrue, List, length, slice_index}
use Rattle.std.specs.Bool.{OnTrue}
use Rattle.save_device.specs.Rows.{IsInRange, overwritten, DiffersOnlyAt}
use Rattle.file_device.specs.Kept.{Kept}

-- a place of the sector of this number
abbrev pub IsInSector : ℕ → ℕ → Type 0
IsInSector number place = IsInRange (512 * number) 512 place

-- a place of a sector that a write of n bytes from `at` on touches
pub record IsTouched (at n place : ℕ) : Type 0 where
  pub number : ℕ
  pub holds : IsInSector number place
  pub byte : ℕ
  pub holds_too : IsInSector number byte
  pub written : IsInRange at n byte

-- One write, which went well or not. A stop may leave anything in each sector that it touches, until a flush. They are stale after it
-- where it failed, and its own bytes aren't where it went well. A read may give anything at stale places.
pub record PutsSectors (at : ℕ) (bytes : List ℕ) (good : Bool) (old new : Kept) : Type 0 where
  pub done : OnTrue good (DiffersOnlyAt (λ place. IsTrue (new.stale place)) (overwritten old.bytes at bytes) new.bytes)
  pub outside : DiffersOnlyAt (λ place. IsTrue (new.stale place) ⊎ IsTouched at (length bytes) place) old.bytes new.bytes
  pub unsettled : (place : ℕ) → IsTrue (new.unsettled place) → IsTrue (old.unsettled place) ⊎ IsTouched at (length bytes) place
  pub stale : (place : ℕ) → IsTrue (new.stale place) → IsTrue (old.stale place) ⊎ ((good ≡ false) × IsTouched at (length bytes) place)
  pub renewed : OnTrue good ((place : ℕ) → IsInRange at (length bytes) place → ¬ IsTrue (new.stale place))

-- a stop within a write of n bytes at this place may leave this image of the file
abbrev pub MayLeaveTouched : ℕ → ℕ → Kept → List ℕ → Type 0
MayLeaveTouched at n kept image = DiffersOnlyAt (λ place. IsTrue (kept.unsettled place) ⊎ IsTouched at n place) kept.bytes image

-- a read gives this byte at this place, and the next flush makes it durable if it goes well
pub record IsPut (kept : Kept) (place byte : ℕ) : Type 0 where
  pub fresh : ¬ IsTrue (kept.stale place)
  pub is : slice_index kept.bytes place ≡ byte

-- the disk has this byte at this place
pub record IsOnDisk (kept : Kept) (place byte : ℕ) : Type 0 where
  pub settled : ¬ IsTrue (kept.unsettled place)
  pub put : IsPut kept place byte

-- What was on the disk is there, but in the sectors that a write of n bytes at this place touches. Where all went well, what was put
-- elsewhere still is.
pub record KeepsOthers (at n : ℕ) (good : Bool) (old new : Kept) : Type 0 where
  pub size : length new.bytes ≡ length old.bytes
  pub still : (place byte : ℕ) → ¬ IsTouched at n place → IsOnDisk old place byte → IsOnDisk new place byte
  pub put : good ≡ true → (place byte : ℕ) → ¬ IsTouched at n place → IsPut old place byte → IsPut new place byte

-- One write and a flush behind it, which both went well or not.
pub record PutsDurably (at : ℕ) (bytes : List ℕ) (good : Bool) (old new : Kept) : Type 0 where
  pub others : KeepsOthers at (length bytes) good old new
  pub done : good ≡ true → (place : ℕ) → IsInRange at (length bytes) place → IsOnDisk new place (slice_index bytes (place - at))
