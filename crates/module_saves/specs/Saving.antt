-- What the module knows of its device and of a save, and what a step of the save makes of it.
use Rattle.std.specs.Prelude.{◌≡◌, ◌≢◌, ◌⊎◌, ℕ, ◌+◌, ◌≤◌, Bool, true, false, nat_lt, List, Result, Ok, Err, Option, Some, None, IfOk, IfErr}
use Rattle.std.specs.Option.{ForSome}
use Rattle.save_device.specs.Device.{DeviceState}
use Rattle.line_memory.specs.Memory.{IsMemory}
use Rattle.save_image.specs.Image.{Image}
use Rattle.slot_store.specs.declared.plan.Newest.{Newest}
use Rattle.slot_store.specs.declared.plan.Step.{Step}
use Rattle.slot_store.specs.declared.plan.Step.TheVariants.{Close, SyncOpen, Done}
use Rattle.slot_store.specs.declared.saving.SaveRun.{SaveRun}
use Rattle.slot_store.specs.Slots.{other, HasSize}
use Rattle.slot_store.specs.Outcomes.{restored}
use Rattle.slot_store.specs.Rest.{Candidates, IsAmong, IsAtRest}
use Rattle.slot_store.specs.Runs.{Saving, plan_of, next_of, tried_of, failures_of}
use Rattle.nv_machine.specs.State.{RunningSave, Store}
use Rattle.module_saves.specs.declared.saves.StepFault.{StepFault}
use Rattle.module_saves.specs.declared.saves.StepFault.TheVariants as fault
use Rattle.nv_machine.specs.Moves.{stepped, step_failed, torn, repeated, saved_in, advanced}

-- the store after a step that went well
abbrev pub after_step : ℕ → Store → RunningSave → Step → Store
after_step lines s save SyncOpen = saved_in s save.made
after_step lines s save step = advanced lines save (stepped s save.made step)

-- and after any step: one that failed is made again, or has ended the save
abbrev pub store_after : {T : Type 0} → ℕ → Store → RunningSave → Result T StepFault → Store
store_after lines s save (Ok done) = after_step lines s save save.next
store_after lines s save (Err fault.Again) = repeated save (torn s save.made save.next)
store_after lines s save (Err fault.Ended) = step_failed s save.made save.next

-- whether a step that failed is made again
abbrev pub IsFaultOf : Bool → StepFault → Type 0
IsFaultOf again fault.Again = again ≡ true
IsFaultOf again fault.Ended = again ≡ false

-- it is where the save that runs has failed less often than so
abbrev pub TellsFault : {T : Type 0} → ℕ → Option SaveRun → Result T StepFault → Type 0
TellsFault repeats saving result = ForSome saving (λ run. IfErr result (IsFaultOf (nat_lt (failures_of run) repeats)))

-- the newest image and what is known of the other slot, as the module keeps them
pub record Knows (newest : Newest) (closed unsettled : Bool) (s : Store) : Type 0 where
  pub slot : newest.slot ≡ s.maybe.slot
  pub generation : newest.generation ≡ s.maybe.newest.generation
  pub shut : closed ≡ s.closed
  pub open_end : unsettled ≡ s.unsettled

-- a save over this image, of which some step is still to come
pub record IsSaveOver (newest : Newest) (run : SaveRun) : Type 0 where
  pub slot : (plan_of run).slot ≡ other newest.slot
  pub generation : (plan_of run).generation ≡ newest.generation + 1
  pub going : next_of run ≢ Done

-- how many writes a save has in its image
abbrev pub count_in : SaveRun → ℕ
count_in run = (plan_of run).count

-- the save that runs, where one does, is one of so many lines
abbrev pub IsOfLines : ℕ → Option SaveRun → Type 0
IsOfLines lines saving = ForSome saving (λ run. (plan_of run).lines ≡ lines)

-- the save that runs, where one does, makes an image of this generation at most
abbrev pub MakesAtMost : ℕ → Option SaveRun → Type 0
MakesAtMost most saving = ForSome saving (λ run. (plan_of run).generation ≤ most)

-- the save that runs, where one does, makes an image of so many writes at least, and of so many at most
abbrev pub MakesBetween : ℕ → ℕ → Option SaveRun → Type 0
MakesBetween least most saving = ForSome saving (λ run. (least ≤ count_in run) × (count_in run ≤ most))

-- the device has the size that its image needs
abbrev pub IsSizedFor : Option SaveRun → DeviceState → Type 0
IsSizedFor saving device = ForSome saving (λ run. HasSize (plan_of run).lines device)

-- the machine's save and the module's are one, with the same coming step, as many writes and as many failures; or neither runs
abbrev pub AreSameSave : Option RunningSave → Option SaveRun → Type 0
AreSameSave None None = Unit {0}
AreSameSave (Some save) (Some run) =
    (next_of run ≡ save.next) × ((plan_of run).count ≡ save.made.count) × (failures_of run ≡ save.repeats)
AreSameSave None (Some run) = ⊥
AreSameSave (Some save) None = ⊥

-- a save was begun over this image
pub record IsBegun (newest : Newest) (closed : Bool) (count : ℕ) (armed : Bool) (lines : ℕ) (run : SaveRun) : Type 0 where
  pub slot : (plan_of run).slot ≡ other newest.slot
  pub generation : (plan_of run).generation ≡ newest.generation + 1
  pub count_is : (plan_of run).count ≡ count
  pub arm : (plan_of run).armed ≡ armed
  pub shut : (plan_of run).closed ≡ closed
  pub lines_are : (plan_of run).lines ≡ lines
  pub next : next_of run ≡ Close
  pub untried : tried_of run ≡ false
  pub unfailed : failures_of run ≡ 0
  pub saving : (candidates : Candidates) (image : Image) (memory : List (List ℕ)) (state : DeviceState)
      → IsAtRest candidates image newest.slot lines closed state
      → image.generation ≡ newest.generation → IsMemory lines memory
      → Saving candidates image memory run state

-- a stop leaves an image that was possible before the step, or is after it
abbrev pub IsAmongEither : ℕ → Store → Store → List ℕ → Type 0
IsAmongEither lines old new bytes = IsAmong old.maybe (restored lines bytes) ⊎ IsAmong new.maybe (restored lines bytes)

-- what is told of a step: which it was, or none where it was the last one
abbrev pub IsDone : Step → Option Step → Type 0
IsDone next (Some step) = (step ≡ next) × (step ≢ SyncOpen)
IsDone next None = next ≡ SyncOpen

-- a step that went well is told
abbrev pub TellsStep : {E : Type 0} → Option SaveRun → Result (Option Step) E → Type 0
TellsStep saving result = ForSome saving (λ run. IfOk result (IsDone (next_of run)))
