-- What a save that runs shows of itself.
use Rattle.std.specs.Prelude.{◌≡◌, ℕ, ◌+◌, ◌-◌, ◌^◌, min, Bool, not, if◌then◌else◌, List, length, take}
use Rattle.sha2.specs.Hashers.{Holds256}
use Rattle.save_device.specs.Changes.{Makes}
use Rattle.save_device.specs.Device.{DeviceState}
use Rattle.line_memory.specs.Memory.{IsMemory}
use Rattle.save_image.specs.Body.{bytes_of}
use Rattle.save_image.specs.Image.{Image, digest_of}
use Rattle.slot_store.specs.declared.plan.Newest.{Newest}
use Rattle.slot_store.specs.declared.plan.Plan.{Plan}
use Rattle.slot_store.specs.declared.plan.Step.{Step}
use Rattle.slot_store.specs.declared.saving.SaveRun.{SaveRun}
use Rattle.slot_store.specs.Slots.{other}
use Rattle.slot_store.specs.declared.plan.Step.TheVariants.{Header}
use Rattle.slot_store.specs.Steps.{lines_before, step_after}
use Rattle.slot_store.specs.Changes.{change_of, closed_before}
use Rattle.slot_store.specs.Rest.{Candidates, IsAtRest}
use Rattle.slot_store.specs.Saving.{SlotHas, SavingAt, candidates_before}

-- what is saved, and where
abbrev pub plan_of : SaveRun → Plan
plan_of run = run.plan

-- the coming step
abbrev pub next_of : SaveRun → Step
next_of run = run.next

-- it was tried already, and failed
abbrev pub tried_of : SaveRun → Bool
tried_of run = run.tried

-- how often the device failed in a step of it
abbrev pub failures_of : SaveRun → ℕ
failures_of run = run.failures

-- the image of this plan, as the newest one
abbrev pub newest_made : Plan → Newest
newest_made plan = record { slot = plan.slot; generation = plan.generation }

-- after a step that went well the next one comes, and after one that failed the same one again
pub record GoesOnFrom (good : Bool) (old new : SaveRun) : Type 0 where
  pub plan : plan_of new ≡ plan_of old
  pub next : next_of new ≡ (if good then step_after (plan_of old).lines (next_of old) else next_of old)
  pub tried : tried_of new ≡ not good
  pub failures : failures_of new ≡ (if good then failures_of old else min (failures_of old + 1) (2 ^ 64 - 1))

-- the pages of this memory that were written so far were digested, in their order
abbrev pub HasDigested : List (List ℕ) → SaveRun → Type 0
HasDigested memory run = Holds256 run.hasher (bytes_of (take (lines_before (plan_of run).lines (next_of run)) memory))

-- The one device call of the coming step, where its header has this digest: that of the memory whose pages were digested.
pub record MakesStep (run : SaveRun) (page : List ℕ) (good : Bool) (old new : DeviceState) : Type 0 where
  pub digest : List ℕ
  pub size : length digest ≡ 32
  pub own : (memory : List (List ℕ)) → IsMemory (plan_of run).lines memory → HasDigested memory run → next_of run ≡ Header → digest ≡ digest_of memory
  pub makes : Makes (change_of (plan_of run) digest (next_of run) page) good old new

-- what stands in the slot that the save writes, and what was digested of it
abbrev pub HasSoFar : List (List ℕ) → SaveRun → DeviceState → Type 0
HasSoFar memory run state = SlotHas (plan_of run) memory (next_of run) (tried_of run) state × HasDigested memory run

-- this save of this memory runs over the newest image `old`
abbrev pub Saving : Candidates → Image → List (List ℕ) → SaveRun → DeviceState → Type 0
Saving candidates old memory run state =
    SavingAt candidates old (plan_of run) memory (next_of run) (tried_of run) state × HasDigested memory run

-- the device is at rest where that save is given up, on the old image still
abbrev pub IsGivenUp : Candidates → Image → List (List ℕ) → SaveRun → DeviceState → Type 0
IsGivenUp candidates old memory run state =
    IsAtRest (candidates_before candidates old (plan_of run) memory (next_of run) (tried_of run))
    old (other (plan_of run).slot) (plan_of run).lines
    (closed_before (plan_of run) (next_of run) (tried_of run)) state
