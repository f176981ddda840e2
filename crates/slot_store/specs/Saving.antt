-- A save that runs.
use Rattle.std.specs.Prelude.{◌≡◌, ◌≢◌, ◌⊎◌, ℕ, ◌+◌, ◌*◌, ◌<◌, Bool, true, false, if◌then◌else◌, IsTrue, List, take, drop, slice_index, Some}
use Rattle.save_device.specs.Rows.{IsInRange}
use Rattle.save_device.specs.Device.{DeviceState, IsSettled}
use Rattle.line_memory.specs.Memory.{IsMemory}
use Rattle.save_image.specs.Header.{arm_byte}
use Rattle.save_image.specs.Body.{lines_in}
use Rattle.save_image.specs.Image.{Image, digest_of}
use Rattle.slot_store.specs.declared.plan.Plan.{Plan}
use Rattle.slot_store.specs.declared.plan.Step.{Step}
use Rattle.slot_store.specs.declared.plan.Step.TheVariants.{Close, SyncClosed, Header, Page, SyncBody, Open, SyncOpen, Done}
use Rattle.slot_store.specs.Slots.{start_of, slot_size, HasSize, other, slot_state, Full, page_in}
use Rattle.slot_store.specs.Outcomes.{Found, restored}
use Rattle.slot_store.specs.Changes.{gate_of, planned}
use Rattle.slot_store.specs.Rest.{Candidates, only, IsAmong, IsHarmless, IsShut}
use Rattle.save_image.specs.declared.page.TheConstants.{PAGE_BYTES, PAGE_LINES}

-- the image that is saved
abbrev pub image_of : Plan → List (List ℕ) → Image
image_of plan memory = record { generation = plan.generation; count = plan.count; arm = arm_byte plan.armed; memory = memory }

-- the gate is closed, and a stop leaves it so
abbrev pub GateShut : Plan → DeviceState → Type 0
GateShut plan state = IsShut plan.lines plan.slot state

-- the header of the slot is the planned one, with the digest of this memory, whatever its gate
abbrev pub HasHeader : Plan → List (List ℕ) → List ℕ → Type 0
HasHeader plan memory bytes =
    page_in plan.lines plan.slot bytes ≡ planned plan (digest_of memory) (slice_index bytes (gate_of plan))

-- the first n lines of the slot's body are the memory's
abbrev pub HasLines : Plan → List (List ℕ) → ℕ → List ℕ → Type 0
HasLines plan memory n bytes = lines_in n (drop (gate_of plan + PAGE_BYTES) bytes) ≡ take n memory

-- all of the slot but its gate is the image's
pub record IsWritten (plan : Plan) (memory : List (List ℕ)) (bytes : List ℕ) : Type 0 where
  pub header : HasHeader plan memory bytes
  pub body : HasLines plan memory plan.lines bytes

-- nothing but the gate may be unsettled
abbrev pub IsSettledButGate : Plan → DeviceState → Type 0
IsSettledButGate plan state = (place : ℕ) → IsTrue (state.unsettled place) → place ≡ gate_of plan

-- the gate is open, and nothing but it may be unsettled
pub record IsOpening (plan : Plan) (state : DeviceState) : Type 0 where
  pub is_open : slice_index state.bytes (gate_of plan) ≡ 0xA5
  pub rest_settled : IsSettledButGate plan state

-- What stands in the slot that is written, before a step that was tried and failed or wasn't. The step that opens the gate
-- leaves any byte there where it fails.
abbrev pub SlotHas : Plan → List (List ℕ) → Step → Bool → DeviceState → Type 0
SlotHas plan memory Close tried state = plan.closed ≡ true → GateShut plan state
SlotHas plan memory SyncClosed tried state =
    (slice_index state.bytes (gate_of plan) ≢ 0xA5) × (plan.closed ≡ true → GateShut plan state)
SlotHas plan memory (Page k) tried state = GateShut plan state × HasLines plan memory (PAGE_LINES * k) state.bytes
SlotHas plan memory Header tried state = GateShut plan state × HasLines plan memory plan.lines state.bytes
SlotHas plan memory SyncBody tried state = GateShut plan state × IsWritten plan memory state.bytes
SlotHas plan memory Open tried state =
    IsWritten plan memory state.bytes × IsSettledButGate plan state × (tried ≡ false → GateShut plan state)
SlotHas plan memory SyncOpen tried state = IsWritten plan memory state.bytes × IsOpening plan state
SlotHas plan memory Done tried state = IsWritten plan memory state.bytes × IsOpening plan state × IsSettled state

-- the other slot is settled
abbrev pub IsKept : Plan → DeviceState → Type 0
IsKept plan state =
    (place : ℕ) → IsInRange (start_of plan.lines (other plan.slot)) (slot_size plan.lines) place → ¬ IsTrue (state.unsettled place)

-- What a stop may leave of the device before a step: one of the candidates until the gate is settled closed; from then
-- on the other slot is settled.
abbrev pub GuardsCandidates : Candidates → Plan → Step → DeviceState → Type 0
GuardsCandidates candidates plan Close state = IsHarmless candidates plan.lines plan.slot plan.closed state
GuardsCandidates candidates plan SyncClosed state = IsHarmless candidates plan.lines plan.slot plan.closed state
GuardsCandidates candidates plan step state = IsKept plan state

-- A save of this memory over the newest image `old`, before a step. Until the gate is settled closed a stop leaves one of
-- the candidates.
pub record SavingAt (candidates : Candidates) (old : Image) (plan : Plan) (memory : List (List ℕ)) (next : Step) (tried : Bool) (state : DeviceState) : Type 0 where
  pub size : HasSize plan.lines state
  pub lines : IsMemory plan.lines memory
  pub rises : old.generation < plan.generation
  pub newest : slot_state plan.lines (other plan.slot) state.bytes ≡ Full old
  pub guards : GuardsCandidates candidates plan next state
  pub has : SlotHas plan memory next tried state

-- a restore finds the old image, the new one, or either
abbrev pub FindsOld : Image → Plan → List ℕ → Type 0
FindsOld old plan image = restored plan.lines image ≡ Found (other plan.slot) old

abbrev pub FindsNew : Plan → List (List ℕ) → List ℕ → Type 0
FindsNew plan memory image = restored plan.lines image ≡ Found plan.slot (image_of plan memory)

abbrev pub FindsEither : Image → Plan → List (List ℕ) → List ℕ → Type 0
FindsEither old plan memory image = FindsOld old plan image ⊎ FindsNew plan memory image

-- What a stop in a step leaves: one of the candidates while the gate closes, then the old image, from the opening on the
-- old or the new one, and in the end the new one.
abbrev pub Leaves : Candidates → Image → Plan → List (List ℕ) → Step → List ℕ → Type 0
Leaves candidates old plan memory Close image = IsAmong candidates (restored plan.lines image)
Leaves candidates old plan memory SyncClosed image = IsAmong candidates (restored plan.lines image)
Leaves candidates old plan memory Open image = FindsEither old plan memory image
Leaves candidates old plan memory SyncOpen image = FindsEither old plan memory image
Leaves candidates old plan memory Done image = FindsNew plan memory image
Leaves candidates old plan memory step image = FindsOld old plan image

-- the old image, and the one that was being saved
abbrev pub old_and_new : Image → Plan → List (List ℕ) → Candidates
old_and_new old plan memory = record { slot = other plan.slot; newest = old; any_arm = false; saved = Some (image_of plan memory) }

-- the old image alone
abbrev pub only_old : Image → Plan → Candidates
only_old old plan = only (other plan.slot) old

-- The images that a stop may make the newest where the save is given up before this step, which was tried and failed or
-- wasn't.
abbrev pub candidates_before : Candidates → Image → Plan → List (List ℕ) → Step → Bool → Candidates
candidates_before candidates old plan memory Close tried = candidates
candidates_before candidates old plan memory SyncClosed tried = candidates
candidates_before candidates old plan memory Open tried = if tried then old_and_new old plan memory else only_old old plan
candidates_before candidates old plan memory SyncOpen tried = old_and_new old plan memory
candidates_before candidates old plan memory Done tried = only plan.slot (image_of plan memory)
candidates_before candidates old plan memory step tried = only_old old plan
