-- What contracts know of a device: its states, and what a stop may leave.
use Rattle.std.specs.Prelude.{◌≡◌, ◌⊎◌, ℕ, Bool, IsTrue, List, [], ◌∷◌, ◌++◌, All, ⊤}
use Rattle.save_device.specs.declared.calls.Call.{Call}
use Rattle.save_device.specs.Calls.{faults_in}
use Rattle.save_device.specs.Rows.{DiffersOnlyAt}

-- A device at a moment: the bytes that a read gives, and which places are unsettled.
pub record Moment : Type 0 where
  pub bytes : List ℕ
  pub unsettled : ℕ → Bool

-- What is known of a device: how it is, how it was at the moments before, the oldest first, and the calls so far.
pub record DeviceState : Type 0 where
  pub bytes : List ℕ
  pub unsettled : ℕ → Bool
  pub earlier : List Moment
  pub calls : List Call

-- how it is
abbrev pub present : DeviceState → Moment
present state = record { bytes = state.bytes; unsettled = state.unsettled }

-- the same with these calls, as they were made of something around it
abbrev pub with_calls : DeviceState → List Call → DeviceState
with_calls state calls = record { bytes = state.bytes; unsettled = state.unsettled; earlier = state.earlier; calls = calls }

-- all moments so far, the present one last
abbrev pub moments_of : DeviceState → List Moment
moments_of state = state.earlier ++ present state ∷ []

-- how many calls failed
abbrev pub faults_of : DeviceState → ℕ
faults_of state = faults_in state.calls

-- no place is unsettled
abbrev pub IsSettled : DeviceState → Type 0
IsSettled state = (place : ℕ) → ¬ IsTrue (state.unsettled place)

-- A stop at this moment may leave this image: a row of the same length that has any byte at an unsettled place, and at
-- each other one the byte that a read gives.
abbrev pub MayLeave : Moment → List ℕ → Type 0
MayLeave moment image = DiffersOnlyAt (λ place. IsTrue (moment.unsettled place)) moment.bytes image

-- each image that a stop at this moment may leave has P
abbrev pub StopsWithin : (List ℕ → Type 0) → Moment → Type 0
StopsWithin P moment = (image : List ℕ) → MayLeave moment image → P image

-- A stop at any moment from old to new leaves an image that has P: the moments of new are those of old and some further
-- ones, at each of which it does, as at the last one of old.
pub record LeavesOnly (old new : DeviceState) (P : List ℕ → Type 0) : Type 0 where
  pub since : List Moment
  pub keeps : moments_of new ≡ moments_of old ++ since
  pub first : StopsWithin P (present old)
  pub each : All (StopsWithin P) since

-- moments go on
abbrev pub GoesOn : DeviceState → DeviceState → Type 0
GoesOn old new = LeavesOnly old new (λ image. ⊤)

-- Time passes in one call: a stop at any moment of it leaves what one could leave before it, or what one can leave after.
abbrev pub Elapses : DeviceState → DeviceState → Type 0
Elapses old new = LeavesOnly old new (λ image. MayLeave (present old) image ⊎ MayLeave (present new) image)
