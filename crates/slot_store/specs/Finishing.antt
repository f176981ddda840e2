-- A save that is finished: its steps in turn, each asked for first, until one is refused or the device fails in it.
use Rattle.std.specs.Prelude.{◌≡◌, ◌≢◌, ◌⊎◌, ℕ, zero, suc, ◌+◌, ◌<◌, Bool, true, false, List, [], ◌∷◌, ◌++◌, take, length, slice_get, Result, Ok, Err, Some, MatchResult}
use Rattle.save_device.specs.declared.calls.Call.{Call}
use Rattle.save_device.specs.declared.calls.CallKind.{CallKind}
use Rattle.save_device.specs.Calls.{called, all_good}
use Rattle.save_device.specs.Rows.{IsInRange, DiffersOnlyAt}
use Rattle.save_device.specs.Device.{DeviceState, LeavesOnly, MayLeave, present}
use Rattle.line_memory.specs.Memory.{IsMemory}
use Rattle.save_image.specs.Image.{Image}
use Rattle.slot_store.specs.declared.plan.Step.{Step}
use Rattle.slot_store.specs.declared.plan.Step.TheVariants.{Done}
use Rattle.slot_store.specs.declared.source.Refused.{Refused}
use Rattle.slot_store.specs.declared.source.BrokenOff.{BrokenOff}
use Rattle.slot_store.specs.declared.source.BrokenOff.TheVariants as broken
use Rattle.slot_store.specs.declared.source.SaveSource.{Ghosts}
use Rattle.slot_store.specs.declared.saving.SaveRun.{SaveRun}
use Rattle.slot_store.specs.Slots.{slot_size, device_size}
use Rattle.slot_store.specs.Steps.{step_later, steps_left, calls_left}
use Rattle.slot_store.specs.Changes.{gate_of}
use Rattle.slot_store.specs.Rest.{Candidates}
use Rattle.slot_store.specs.Saving.{Leaves}
use Rattle.slot_store.specs.Runs.{plan_of, next_of, tried_of, HasSoFar, Saving}

-- a save that runs, with its source and its device
pub record Underway (S : Type 0) : Type 0 where
  pub source : S
  pub run : SaveRun
  pub device : DeviceState

abbrev pub underway : {S : Type 0} → S → SaveRun → DeviceState → Underway S
underway source run device = record { source = source; run = run; device = device }

-- the answer where a save is to be finished
abbrev pub Finish : Type 0
Finish = Result (Unit {0}) BrokenOff

-- the step that comes once so many more were made
abbrev pub step_on : SaveRun → ℕ → Step
step_on run made = step_later (plan_of run).lines (next_of run) made

-- how many steps are still to come, and their calls
abbrev pub steps_to_come : SaveRun → ℕ
steps_to_come run = steps_left (plan_of run).lines (next_of run)

abbrev pub calls_to_come : SaveRun → List CallKind
calls_to_come run = calls_left (plan_of run).closed (plan_of run).lines (next_of run)

-- how many steps were tried, where so many were made: also the one in which the device failed
abbrev pub steps_tried : Finish → ℕ → ℕ
steps_tried (Err broken.Fault) made = suc made
steps_tried finish made = made

-- whether the coming step was tried: where the device failed in it, or had before and no step was made since
abbrev pub is_tried : Finish → ℕ → Bool → Bool
is_tried (Err broken.Fault) made before = true
is_tried finish zero before = before
is_tried finish (suc made) before = false

-- a save stands so many steps further on
pub record StandsAfter (made : ℕ) (tried : Bool) (old new : SaveRun) : Type 0 where
  pub plan : plan_of new ≡ plan_of old
  pub next : next_of new ≡ step_on old made
  pub left : steps_to_come new + made ≡ steps_to_come old
  pub tried_is : tried_of new ≡ tried

module _ {S : Type 0} (asks : S → Step → Result (Unit {0}) Refused → S → Type 0) (step : ℕ → Step) where
  -- so many steps, from the first one on, were asked for in turn, and each was granted
  abbrev pub GrantsFirst : ℕ → S → S → Type 0
  GrantsFirst zero old new = new ≡ old
  GrantsFirst (suc n) old new = (mid : S) × GrantsFirst n old mid × asks mid (step n) (Ok tt) new

  -- each step that was tried was asked for and granted, and no further one was asked for but the one that was refused
  abbrev pub AsksFor : Finish → ℕ → S → S → Type 0
  AsksFor (Err broken.Refused) made old new =
      (mid : S) × (refused : Refused) × GrantsFirst made old mid × asks mid (step made) (Err refused) new
  AsksFor finish made old new = GrantsFirst (steps_tried finish made) old new

-- each step is granted, and the source stays as it is
abbrev pub GrantsEach : {S : Type 0} → S → Step → Result (Unit {0}) Refused → S → Type 0
GrantsEach old step result new = (result ≡ Ok tt) × (new ≡ old)

-- all of these calls were made, or so many of them, from the first one on, or these and the next one, which failed
abbrev pub CallsFor : List CallKind → Finish → ℕ → List Call → List Call → Type 0
CallsFor kinds (Ok done) made old new = new ≡ old ++ all_good kinds
CallsFor kinds (Err broken.Refused) made old new = new ≡ old ++ all_good (take made kinds)
CallsFor kinds (Err broken.Fault) made old new =
    (kind : CallKind) × (slice_get kinds made ≡ Some kind) × (new ≡ old ++ all_good (take made kinds) ++ called kind false ∷ [])

-- what a stop in one of so many steps leaves, from the first one on
abbrev pub LeavesInFirst : Candidates → Image → List (List ℕ) → SaveRun → ℕ → List ℕ → Type 0
LeavesInFirst candidates old memory run tried image =
    (k : ℕ) × (k < tried) × Leaves candidates old (plan_of run) memory (step_on run k) image

-- So many steps of a save of this memory were tried on the device, from the first one on. Nothing outside the slot is written,
-- and the size stays at any moment. A save over the newest image goes on, and a stop leaves what it could leave before the
-- first step, or what one in one of the steps leaves.
pub record TriesFirst (memory : List (List ℕ)) (tried : ℕ) (old : SaveRun) (before : DeviceState) (new : SaveRun) (after : DeviceState) : Type 0 where
  pub has : IsMemory (plan_of old).lines memory → HasSoFar memory old before → HasSoFar memory new after
  pub outside : DiffersOnlyAt (IsInRange (gate_of (plan_of old)) (slot_size (plan_of old).lines)) before.bytes after.bytes
  pub size : LeavesOnly before after (λ image. length image ≡ device_size (plan_of old).lines)
  pub saving : (candidates : Candidates) (image : Image) → Saving candidates image memory old before → Saving candidates image memory new after
  pub any_moment : (candidates : Candidates) (image : Image) → Saving candidates image memory old before
      → LeavesOnly before after (λ left. MayLeave (present before) left ⊎ LeavesInFirst candidates image memory old tried left)

-- The steps that were to come were made in turn, each asked for first: all of them, so that the save is done, or those before
-- one that was refused or in which the device failed.
pub record Finishes {S : Type 0} (G : Ghosts S) (finish : Finish) (old new : Underway S) : Type 0 where
  pub made : ℕ
  pub stands : StandsAfter made (is_tried finish made (tried_of old.run)) old.run new.run
  pub ends : MatchResult finish (λ done. next_of new.run ≡ Done) (λ why. next_of new.run ≢ Done)
  pub asks : AsksFor G.asks (step_on old.run) finish made old.source new.source
  pub calls : CallsFor (calls_to_come old.run) finish made old.device.calls new.device.calls
  pub memory : G.memory new.source ≡ G.memory old.source
  pub tries : TriesFirst (G.memory old.source) (steps_tried finish made) old.run old.device new.run new.device
