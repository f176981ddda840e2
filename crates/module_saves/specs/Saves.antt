-- What calls make of a module's saves: one is begun, makes a step, or ends, and what it says of the device is kept.
use Rattle.std.specs.Prelude.{◌≡◌, ◌≢◌, ◌⊎◌, ℕ, ◌+◌, Bool, true, false, ◌||◌, List, Result, Ok, Err, Option, Some, None}
use Rattle.line_memory.specs.Memory.{IsMemory}
use Rattle.save_device.specs.Device.{DeviceState, LeavesOnly}
use Rattle.save_image.specs.Image.{Image}
use Rattle.save_image.specs.Header.{arm_byte}
use Rattle.slot_store.specs.declared.plan.Step.{Step}
use Rattle.slot_store.specs.declared.plan.Step.TheVariants.{Done}
use Rattle.slot_store.specs.declared.saving.SaveRun.{SaveRun}
use Rattle.slot_store.specs.Slots.{other}
use Rattle.slot_store.specs.Changes.{GivesPage, closed_before}
use Rattle.slot_store.specs.Runs.{plan_of, next_of, tried_of, newest_made}
use Rattle.module_saves.specs.declared.saves.Saves.{Saves}
use Rattle.module_saves.specs.declared.saves.StepFault.{StepFault}
use Rattle.module_saves.specs.declared.saves.StepFault.TheVariants as fault
use Rattle.nv_machine.specs.State.{RunningSave, Store, begun_save}
use Rattle.module_saves.specs.Device.{Holds}
use Rattle.module_saves.specs.Saving.{IsBegun, Knows, IsAmongEither}

-- a save of this many writes was begun, in place of one that ran
pub record BeginsSave (old : Saves) (count : ℕ) (armed : Bool) (lines : ℕ) (new : Saves) : Type 0 where
  pub run : SaveRun
  pub begun : IsBegun old.newest old.closed count armed lines run
  pub runs : new.saving ≡ Some run
  pub newest : new.newest ≡ old.newest
  pub closed : new.closed ≡ old.closed
  pub unsettled : new.unsettled ≡ old.unsettled

-- the same, of the store
pub record StoreBeginsSave (lines : ℕ) (s : Store) (old : Saves) (later : Store) (new : Saves) : Type 0 where
  pub made : Image
  pub is_armed : Bool
  pub begins : BeginsSave old made.count is_armed lines new
  pub is : later ≡ record s { saving = Some (begun_save made) }
  pub rises : made.generation ≡ s.maybe.newest.generation + 1
  pub arm : made.arm ≡ arm_byte is_armed
  pub memory : IsMemory lines made.memory

-- The store stays, or a save is begun. What the device holds follows from it.
abbrev pub StoreMoves : ℕ → Store → Saves → Store → Saves → Type 0
StoreMoves lines s old later new = ((later ≡ s) × (new ≡ old)) ⊎ StoreBeginsSave lines s old later new

-- whether the gate of a save's slot counts as closed where the save stands so
abbrev pub closed_of : SaveRun → Bool
closed_of run = closed_before (plan_of run) (next_of run) (tried_of run)

-- What this save says was kept: its image is the newest once it is done, and until then that of before; whether the gate of the
-- other slot is closed; and that the device failed in it, if it did.
pub record Learns (run : SaveRun) (old new : Saves) : Type 0 where
  pub saving : new.saving ≡ old.saving
  pub closed : new.closed ≡ closed_of run
  pub done : next_of run ≡ Done → (new.newest ≡ newest_made (plan_of run)) × (new.unsettled ≡ false)
  pub going : next_of run ≢ Done → (new.newest ≡ old.newest) × (new.unsettled ≡ (old.unsettled || tried_of run))

-- A step of this save failed, and it is kept, to make that step again.
pub record KeepsFailed (run : SaveRun) (old new : Saves) : Type 0 where
  pub saving : new.saving ≡ Some run
  pub closed : new.closed ≡ closed_of run
  pub newest : new.newest ≡ old.newest
  pub unsettled : new.unsettled ≡ old.unsettled

-- the same, or the save has ended, and what it says was kept
abbrev pub FailsIn : SaveRun → Bool → StepFault → Saves → Saves → Type 0
FailsIn run again fault.Again old new = (again ≡ true) × KeepsFailed run old new
FailsIn run again fault.Ended old new = (again ≡ false) × Learns run old new

-- what is known of the save and of the newest image after a step
abbrev pub StepTold : Result (Option Step) StepFault → Saves → Saves → Type 0
StepTold (Err why) old new = new.newest ≡ old.newest
StepTold (Ok None) old new = (new.saving ≡ None) × (new.newest.generation ≡ old.newest.generation + 1) × (new.newest.slot ≡ other old.newest.slot)
StepTold (Ok (Some step)) old new = new.newest ≡ old.newest

-- this save runs, the device holds the store and the module knows it, and a page step is given its page
pub record IsReadyFor (lines : ℕ) (s : Store) (save : RunningSave) (saves : Saves) (page : List ℕ) (state : DeviceState) : Type 0 where
  pub runs : s.saving ≡ Some save
  pub gives : GivesPage save.made.memory save.next page
  pub knows : Knows saves.newest saves.closed saves.unsettled s
  pub holds : Holds lines s saves.saving state

-- The device holds this store after a step, and the module knows it. A stop at any moment of the step leaves an image that
-- was possible before it, or is after it.
pub record ReachesStore (lines : ℕ) (s later : Store) (before : DeviceState) (saves : Saves) (state : DeviceState) : Type 0 where
  pub knows : Knows saves.newest saves.closed saves.unsettled later
  pub holds : Holds lines later saves.saving state
  pub moments : LeavesOnly before state (IsAmongEither lines s later)
