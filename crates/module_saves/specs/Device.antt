-- What the device holds while the machine has this store.
use Rattle.std.specs.Prelude.{◌≡◌, ◌≢◌, ℕ, ◌+◌, false, Option, Some, None}
use Rattle.save_device.specs.Device.{DeviceState}
use Rattle.save_image.specs.Image.{Image}
use Rattle.save_image.specs.Header.{arm_byte}
use Rattle.slot_store.specs.declared.plan.Plan.{Plan}
use Rattle.slot_store.specs.declared.plan.Step.TheVariants.{Done}
use Rattle.slot_store.specs.declared.saving.SaveRun.{SaveRun}
use Rattle.slot_store.specs.Slots.{other}
use Rattle.slot_store.specs.Outcomes.{Outcome}
use Rattle.slot_store.specs.Rest.{Candidates, rearmed, IsAmong, IsAtRest}
use Rattle.slot_store.specs.Changes.{closed_before}
use Rattle.slot_store.specs.Saving.{candidates_before}
use Rattle.slot_store.specs.Runs.{plan_of, next_of, tried_of, failures_of, Saving}
use Rattle.nv_machine.specs.State.{RunningSave, Store}

-- a read finds the newest image, with some arm byte, which is its own where only that one may stand
pub record FindsNewest (maybe : Candidates) (image : Image) : Type 0 where
  pub own : maybe.any_arm ≡ false → image.arm ≡ maybe.newest.arm
  pub is : image ≡ rearmed maybe.newest image.arm

-- each image that a stop may make the newest is one of these
abbrev pub AreAmong : Candidates → Candidates → Type 0
AreAmong candidates maybe = (outcome : Outcome) → IsAmong candidates outcome → IsAmong maybe outcome

-- between two saves
pub record IsResting (lines : ℕ) (s : Store) (state : DeviceState) : Type 0 where
  pub candidates : Candidates
  pub image : Image
  pub newest : FindsNewest s.maybe image
  pub rest : IsAtRest candidates image s.maybe.slot lines s.closed state
  pub among : AreAmong candidates s.maybe

-- the plan of a save that makes this image
pub record IsPlanFor (lines : ℕ) (s : Store) (made : Image) (plan : Plan) : Type 0 where
  pub slot : plan.slot ≡ other s.maybe.slot
  pub generation : plan.generation ≡ made.generation
  pub count : plan.count ≡ made.count
  pub arm : arm_byte plan.armed ≡ made.arm
  pub lines_are : plan.lines ≡ lines
  pub rises : made.generation ≡ s.maybe.newest.generation + 1

-- While a save runs: what is known of the other slot's gate, and that each image that a stop may make the newest where the
-- save is given up is among those of the store.
pub record IsSaving (lines : ℕ) (s : Store) (save : RunningSave) (run : SaveRun) (state : DeviceState) : Type 0 where
  pub candidates : Candidates
  pub image : Image
  pub newest : FindsNewest s.maybe image
  pub plan : IsPlanFor lines s save.made (plan_of run)
  pub next : next_of run ≡ save.next
  pub again : failures_of run ≡ save.repeats
  pub saving : Saving candidates image save.made.memory run state
  pub shut : s.closed ≡ closed_before (plan_of run) save.next (tried_of run)
  pub among : AreAmong (candidates_before candidates image (plan_of run) save.made.memory save.next (tried_of run)) s.maybe
  pub going : save.next ≢ Done

abbrev pub HoldsWhile : Option RunningSave → Option SaveRun → ℕ → Store → DeviceState → Type 0
HoldsWhile None None lines s state = IsResting lines s state
HoldsWhile (Some save) (Some run) lines s state = IsSaving lines s save run state
HoldsWhile None (Some run) lines s state = ⊥
HoldsWhile (Some save) None lines s state = ⊥

-- the device holds this store, while the module's save is this one
abbrev pub Holds : ℕ → Store → Option SaveRun → DeviceState → Type 0
Holds lines s run state = HoldsWhile s.saving run lines s state
