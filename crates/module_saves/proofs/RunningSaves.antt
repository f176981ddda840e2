-- Which save runs while the store goes on.
use Rattle.module_saves.specs.Saving.{count_in}
use Rattle.std.proofs.Common.{Bool, false, true}
use Rattle.nv_machine.specs.Moves.{advanced, broken_off}
use Rattle.module_saves.proofs.Common.{ℕ, ◌∙◌, ◌≡◌, ◌≢◌, DeviceState, ForSome, HoldsWhile, Image, IsSaving, None, Option, RunningSave, AreSameSave, SaveRun, Some, Step, Store, SyncOpen, after_step, ap, hold_at, more, next_of, option_map, other, plan_of, refl, rules, step_after, step_failed, stepped, subst, sym}

-- after a fault no save runs
pub failed_none : (s : Store) (made : Image) (next : Step) → (step_failed s made next).saving ≡ None
failed_none s made next = search rules

pub broken_none : (s : Store) (made : Image) (next : Step) (failed : Bool) → (broken_off s made next failed).saving ≡ None
broken_none s made next true = failed_none s made next
broken_none s made next false = refl

-- the save that the device has is the one that the module makes
pub holds_runs : (lines : ℕ) (s : Store) (state : DeviceState) (o : Option RunningSave) (r : Option SaveRun) → HoldsWhile o r lines s state → AreSameSave o r
holds_runs lines s state o r holds = search rules

-- what was held before a step is held after it, where the hold lasts
pub held_next : (lines count : ℕ) (next : Step) (P : ℕ → Type 0) → ForSome (hold_at count next) P → ForSome (hold_at count (step_after lines next)) P
held_next lines count next P held = search rules

-- the save that runs on the device
pub the_run : (lines : ℕ) (s : Store) (state : DeviceState) (save : RunningSave) (o : Option RunningSave) (r : Option SaveRun) → o ≡ Some save → HoldsWhile o r lines s state
    → (run : SaveRun) × (r ≡ Some run) × IsSaving lines s save run state
the_run lines s state save None r is holds = absurd (let bad : ⊥ = cc in bad)
the_run lines s state save (Some other) None is none = absurd none
the_run lines s state save (Some other) (Some run) is holds = let same : other ≡ save = cc in (run, refl, subst (λ (x : RunningSave). IsSaving lines s x run state) same holds)

-- its count
pub counts_as : (count : ℕ) (r : Option SaveRun) (run : SaveRun) → r ≡ Some run → option_map count_in r ≡ Some count → count ≡ (plan_of run).count
counts_as count r run is counted = let e : Some count ≡ Some (count_in run) = sym counted ∙ ap (option_map count_in) is in cc

-- a step that isn't the last one
pub stepped_is : (lines : ℕ) (s : Store) (save : RunningSave) (next : Step) → next ≢ SyncOpen → after_step lines s save next ≡ advanced lines save (stepped s save.made next)
stepped_is lines s save next more = search rules

-- no save runs where the module has none
pub none_runs : (o : Option RunningSave) (r : Option SaveRun) → AreSameSave o r → option_map next_of r ≡ None → o ≡ None
none_runs o r runs is = search rules

-- the machine's save, where the module's has this coming step
pub save_runs : (o : Option RunningSave) (r : Option SaveRun) (next : Step) → AreSameSave o r → option_map next_of r ≡ Some next → (save : RunningSave) × (o ≡ Some save) × (save.next ≡ next)
save_runs o r next runs is = search rules
