-- How the device and the store go on together.
use Rattle.std.specs.Prelude.{◌*◌, nat_lt}
use Rattle.module_saves.specs.Device.{AreAmong, FindsNewest, IsPlanFor}
use Rattle.save_device.specs.Device.{MayLeave}
use Rattle.slot_store.proofs.GivenUp.{given_up, save_done}
use Rattle.slot_store.proofs.Resting.{other_other}
use Rattle.slot_store.specs.Outcomes.{Found}
use Rattle.slot_store.specs.Rest.{Candidates, IsAtRest, only}
use Rattle.slot_store.specs.Runs.{Saving, failures_of}
use Rattle.slot_store.specs.Saving.{Leaves, candidates_before, image_of, old_and_new, only_old}
use Rattle.slot_store.specs.declared.plan.Step.TheVariants.{Header, Open}
use Rattle.module_saves.proofs.Common.{if◌then◌else◌, ℕ, ◌+◌, ◌∙◌, ◌≡◌, ◌≢◌, ◌⊎◌, Bool, DeviceState, Done, HoldsWhile, Image, IsAmong, IsResting, IsSaving, List, None, Option, Outcome, Page, Plan, RunningSave, SaveRun, SavingAt, Slot, Some, Step, Store, SyncClosed, SyncOpen, after_step, ap, closed_before, false, more, next_of, other, plan_of, present, rearmed, refl, restored, rules, saved_in, step_after, step_failed, subst, sym, tried_of, true}
use Rattle.nv_machine.specs.Moves.{repeated, torn}

-- a save by its plan, its coming step, and whether that failed
module _ (later : SaveRun) (plan : Plan) (next : Step) (tried : Bool) (plan_is : plan_of later ≡ plan) (next_is : next_of later ≡ next) (tried_is : tried_of later ≡ tried) where
  pub saving_as : (candidates : Candidates) (image : Image) (memory : List (List ℕ)) (state : DeviceState) → Saving candidates image memory later state → SavingAt candidates image plan memory next tried state
  saving_as candidates image memory state saving =
      subst (λ (t : Bool). SavingAt candidates image plan memory next t state) tried_is
      (subst (λ (x : Step). SavingAt candidates image plan memory x (tried_of later) state) next_is (subst (λ (x : Plan). SavingAt candidates image x memory (next_of later) (tried_of later) state) plan_is saving.0))

  pub closed_as : closed_before (plan_of later) (next_of later) (tried_of later) ≡ closed_before plan next tried
  closed_as = ap (λ (x : Plan). closed_before x (next_of later) (tried_of later)) plan_is ∙ ap (λ (x : Step). closed_before plan x (tried_of later)) next_is ∙ ap (closed_before plan next) tried_is

-- the image that a plan makes
pub image_is : (lines : ℕ) (s : Store) (made : Image) (plan : Plan) → IsPlanFor lines s made plan → image_of plan made.memory ≡ made
image_is lines s made plan p = search rules

module _ (lines : ℕ) (s : Store) (candidates : Candidates) (image made : Image) (plan : Plan) (p : IsPlanFor lines s made plan) (n : FindsNewest s.maybe image) where
  back : other plan.slot ≡ s.maybe.slot
  back = ap other p.slot ∙ other_other s.maybe.slot

  pub here : (c : List ℕ) (o : Outcome) → restored plan.lines c ≡ o → restored lines c ≡ o
  here c o is = ap (λ (k : ℕ). restored k c) (sym p.lines_are) ∙ is

  -- the old image may be found of each store with the same newest image
  pub old_in : (m : Candidates) → m.slot ≡ s.maybe.slot → m.newest ≡ s.maybe.newest → m.any_arm ≡ s.maybe.any_arm → (o : Outcome) → o ≡ Found (other plan.slot) image → IsAmong m o
  old_in m slot newest any_arm o is = search rules

  -- and the new one of each that has it
  pub new_in : (m : Candidates) → m.slot ≡ s.maybe.slot → m.saved ≡ Some made → (o : Outcome) → o ≡ Found plan.slot (image_of plan made.memory) → IsAmong m o
  new_in m slot saved o is = search rules

  pub alone_in : (m : Candidates) → m.slot ≡ s.maybe.slot → m.newest ≡ s.maybe.newest → m.any_arm ≡ s.maybe.any_arm → AreAmong (only_old image plan) m
  alone_in m slot newest any_arm = search rules

  pub both_in : (m : Candidates) → m.slot ≡ s.maybe.slot → m.newest ≡ s.maybe.newest → m.any_arm ≡ s.maybe.any_arm → m.saved ≡ Some made → AreAmong (old_and_new image plan made.memory) m
  both_in m slot newest any_arm saved = search rules

  -- what a stop in a step leaves, where the store after it is known to have the new image from the opening on
  left : (next : Step) (tried : Bool) (later : Store) (c : List ℕ) → (next ≡ Open → later.maybe ≡ record s.maybe { saved = Some made }) → AreAmong (candidates_before candidates image plan made.memory next tried) s.maybe
      → Leaves candidates image plan made.memory next c → IsAmong s.maybe (restored lines c) ⊎ IsAmong later.maybe (restored lines c)
  left next tried later c opens among leaves = search (rules, old_in, here, new_in, other_other)

  pub left_stepped : (next : Step) (repeats : ℕ) (tried : Bool) (c : List ℕ) → AreAmong (candidates_before candidates image plan made.memory next tried) s.maybe → Leaves candidates image plan made.memory next c
      → IsAmong s.maybe (restored lines c) ⊎ IsAmong (after_step lines s (record { made = made; next = next; repeats = repeats }) next).maybe (restored lines c)
  left_stepped next repeats tried c among leaves =
      left next tried (after_step lines s (record { made = made; next = next; repeats = repeats }) next) c
      (λ is. ap (λ (x : Step). (after_step lines s (record { made = made; next = next; repeats = repeats }) x).maybe) is) among leaves

  pub left_failed : (next : Step) (tried : Bool) (c : List ℕ) → AreAmong (candidates_before candidates image plan made.memory next tried) s.maybe → Leaves candidates image plan made.memory next c
      → IsAmong s.maybe (restored lines c) ⊎ IsAmong (step_failed s made next).maybe (restored lines c)
  left_failed next tried c among leaves = left next tried (step_failed s made next) c (λ is. ap (λ (x : Step). (step_failed s made x).maybe) is) among leaves

  pub left_torn : (next : Step) (tried : Bool) (c : List ℕ) → AreAmong (candidates_before candidates image plan made.memory next tried) s.maybe → Leaves candidates image plan made.memory next c
      → IsAmong s.maybe (restored lines c) ⊎ IsAmong (torn s made next).maybe (restored lines c)
  left_torn next tried c among leaves = left next tried (torn s made next) c (λ is. ap (λ (x : Step). (torn s made x).maybe) is) among leaves

  module _ (state : DeviceState) where
    goes_on : (later : Store) → later.maybe.slot ≡ s.maybe.slot → later.maybe.newest ≡ s.maybe.newest → later.maybe.any_arm ≡ s.maybe.any_arm → (next : Step) (tried : Bool) (repeats : ℕ) (run : SaveRun) → plan_of run ≡ plan → next_of run ≡ next → tried_of run ≡ tried
        → failures_of run ≡ repeats → later.closed ≡ closed_before plan next tried → AreAmong (candidates_before candidates image plan made.memory next tried) later.maybe → next ≢ Done → Saving candidates image made.memory run state
        → IsSaving lines later (record { made = made; next = next; repeats = repeats }) run state
    goes_on later slot newest any_arm next tried repeats run same next_is tried_is failures shut among going saving = record {
      candidates = candidates;
      image = image;
      newest = record { own = λ none. n.own (sym any_arm ∙ none) ∙ ap (λ (i : Image). i.arm) (sym newest); is = n.is ∙ ap (λ (i : Image). rearmed i image.arm) (sym newest) };
      plan = subst (λ (x : Plan). IsPlanFor lines later made x) (sym same) (record {
        slot = p.slot ∙ ap other (sym slot);
        generation = p.generation;
        count = p.count;
        arm = p.arm;
        lines_are = p.lines_are;
        rises = p.rises ∙ ap (λ (i : Image). i.generation + 1) (sym newest);
      });
      next = next_is;
      again = failures;
      saving = saving;
      shut = shut ∙ ap (closed_before plan next) (sym tried_is) ∙ ap (λ (x : Plan). closed_before x next (tried_of run)) (sym same);
      among = subst (λ (x : Plan). AreAmong (candidates_before candidates image x made.memory next (tried_of run)) later.maybe) (sym same)
          (subst (λ (t : Bool). AreAmong (candidates_before candidates image plan made.memory next t) later.maybe) (sym tried_is) among);
      going = going;
    }

    -- the store after a step that went well and wasn't the last one
    pub holds_next : (next : Step) (tried : Bool) (repeats : ℕ) (run : SaveRun) → plan_of run ≡ plan → next_of run ≡ step_after lines next → tried_of run ≡ false → failures_of run ≡ repeats
        → s.closed ≡ closed_before plan next tried → AreAmong (candidates_before candidates image plan made.memory next tried) s.maybe → step_after lines next ≢ Done → Saving candidates image made.memory run state
        → IsSaving lines (after_step lines s (record { made = made; next = next; repeats = repeats }) next) (record { made = made; next = step_after lines next; repeats = repeats }) run state
    holds_next SyncClosed tried repeats run same next_is untried failures shut among going saving =
        goes_on (after_step lines s (record { made = made; next = SyncClosed; repeats = repeats }) SyncClosed) refl refl refl (Page 0) false repeats run same next_is untried failures refl (alone_in (record s.maybe { saved = None }) refl refl refl) going saving
    holds_next (Page k) tried repeats run same next_is untried failures shut among going saving =
        let by_size : (b : Bool) → closed_before plan (if b then Header else Page (k + 1)) false ≡ true = elim [ true ↦ refl | false ↦ refl ] in
        let candidates_by : (b : Bool) → candidates_before candidates image plan made.memory (if b then Header else Page (k + 1)) false ≡ only_old image plan = elim [ true ↦ refl | false ↦ refl ] in
        goes_on (after_step lines s (record { made = made; next = Page k; repeats = repeats }) (Page k)) refl refl refl (step_after lines (Page k)) false repeats run same next_is untried failures
        (shut ∙ sym (by_size (nat_lt lines (64 * (k + 2))))) (subst (λ (c : Candidates). AreAmong c s.maybe) (sym (candidates_by (nat_lt lines (64 * (k + 2))))) among) going saving
    holds_next Open tried repeats run same next_is untried failures shut among going saving =
        goes_on (after_step lines s (record { made = made; next = Open; repeats = repeats }) Open) refl refl refl SyncOpen false repeats run same next_is untried failures refl (both_in (record s.maybe { saved = Some made }) refl refl refl refl) going saving
    holds_next SyncOpen tried repeats run same next_is untried failures shut among going saving = absurd (going refl)
    holds_next Done tried repeats run same next_is untried failures shut among going saving = absurd (going refl)
    holds_next next tried repeats run same next_is untried failures shut among going saving =
        goes_on (after_step lines s (record { made = made; next = next; repeats = repeats }) next) refl refl refl (step_after lines next) false repeats run same next_is untried failures shut among going saving

    -- the store after one that failed and is made again
    pub holds_torn : (next : Step) (tried : Bool) (repeats : ℕ) (run : SaveRun) → plan_of run ≡ plan → next_of run ≡ next → tried_of run ≡ true → failures_of run ≡ repeats + 1
        → s.closed ≡ closed_before plan next tried → AreAmong (candidates_before candidates image plan made.memory next tried) s.maybe → next ≢ Done → Saving candidates image made.memory run state
        → IsSaving lines (repeated (record { made = made; next = next; repeats = repeats }) (torn s made next)) (record { made = made; next = next; repeats = repeats + 1 }) run state
    holds_torn Open tried repeats run same next_is tried_is failures shut among going saving =
        goes_on (repeated (record { made = made; next = Open; repeats = repeats }) (torn s made Open)) refl refl refl Open true (repeats + 1) run same next_is tried_is failures refl (both_in (record s.maybe { saved = Some made }) refl refl refl refl) going saving
    holds_torn Done tried repeats run same next_is tried_is failures shut among going saving = absurd (going refl)
    holds_torn next tried repeats run same next_is tried_is failures shut among going saving =
        goes_on (repeated (record { made = made; next = next; repeats = repeats }) (torn s made next)) refl refl refl next true (repeats + 1) run same next_is tried_is failures shut among going saving

    -- and after the last one
    pub holds_saved : (tried : Bool) → SavingAt candidates image plan made.memory Done tried state → IsResting lines (saved_in s made) state
    holds_saved tried done =
        let i : Image = image_of plan made.memory in
        record {
          candidates = only plan.slot i;
          image = i;
          newest = record { own = λ none. ap (λ (x : Image). x.arm) (image_is lines s made plan p); is = image_is lines s made plan p ∙ ap (rearmed made) (sym (ap (λ (x : Image). x.arm) (image_is lines s made plan p))) };
          rest = subst (λ (slot : Slot). IsAtRest (only plan.slot i) i slot lines false state) p.slot
              (subst (λ (k : ℕ). IsAtRest (only plan.slot i) i plan.slot k false state) p.lines_are (save_done candidates image plan made.memory tried state done));
          among = λ o is. subst (λ (slot : Slot). IsAmong (only slot made) o) p.slot (subst (λ (x : Image). IsAmong (only plan.slot x) o) (image_is lines s made plan p) is);
        }

    pub rests_in : (later : Store) → later.maybe.slot ≡ s.maybe.slot → later.maybe.newest ≡ s.maybe.newest → later.maybe.any_arm ≡ s.maybe.any_arm → (next : Step) (tried : Bool) → next ≢ Done
        → later.closed ≡ closed_before plan next tried → AreAmong (candidates_before candidates image plan made.memory next tried) later.maybe
        → SavingAt candidates image plan made.memory next tried state → IsResting lines later state
    rests_in later slot newest any_arm next tried going shut among saving = record {
      candidates = candidates_before candidates image plan made.memory next tried;
      image = image;
      newest = record { own = λ none. n.own (sym any_arm ∙ none) ∙ ap (λ (i : Image). i.arm) (sym newest); is = n.is ∙ ap (λ (i : Image). rearmed i image.arm) (sym newest) };
      rest = subst (λ (b : Bool). IsAtRest (candidates_before candidates image plan made.memory next tried) image later.maybe.slot lines b state) (sym shut)
          (subst (λ (x : Slot). IsAtRest (candidates_before candidates image plan made.memory next tried) image x lines (closed_before plan next tried) state) (back ∙ sym slot)
          (subst (λ (k : ℕ). IsAtRest (candidates_before candidates image plan made.memory next tried) image (other plan.slot) k (closed_before plan next tried) state) p.lines_are
          (given_up candidates image plan made.memory next tried state going saving)));
      among = among;
    }

    -- the store after a step that failed
    pub holds_failed : (next : Step) (tried : Bool) → next ≢ Done → s.closed ≡ closed_before plan next tried → AreAmong (candidates_before candidates image plan made.memory next tried) s.maybe
        → SavingAt candidates image plan made.memory next true state → HoldsWhile (step_failed s made next).saving None lines (step_failed s made next) state
    holds_failed Open tried going shut among saving = rests_in (step_failed s made Open) refl refl refl Open true going refl (both_in (record s.maybe { saved = Some made }) refl refl refl refl) saving
    holds_failed Done tried going shut among saving = absurd (going refl)
    holds_failed next tried going shut among saving = rests_in (step_failed s made next) refl refl refl next true going shut among saving

-- what is known while a save runs
pub is_saving : (lines : ℕ) (s : Store) (save : RunningSave) (run : SaveRun) (state : DeviceState) (o : Option RunningSave) (r : Option SaveRun) → o ≡ Some save → r ≡ Some run
    → HoldsWhile o r lines s state → IsSaving lines s save run state
is_saving lines s save run state o r saves runs holds = search rules

-- A save that runs is given up, or none runs: the device rests.
pub at_rest : (lines : ℕ) (s : Store) (state : DeviceState) (o : Option RunningSave) (r : Option SaveRun) → HoldsWhile o r lines s state → IsResting lines s state
at_rest lines s state None None rest = rest
at_rest lines s state (Some save) (Some run) v =
    rests_in lines s v.candidates v.image save.made (plan_of run) v.plan v.newest state s refl refl refl save.next (tried_of run) v.going v.shut v.among
    (subst (λ (x : Step). SavingAt v.candidates v.image (plan_of run) save.made.memory x (tried_of run) state) v.next v.saving.0)
at_rest lines s state o r none = absurd none

-- what a stop now leaves of the device is among the images that the machine says
pub stop_now : (lines : ℕ) (s : Store) (r : Option SaveRun) (state : DeviceState) → HoldsWhile s.saving r lines s state
    → (image : List ℕ) → MayLeave (present state) image → IsAmong s.maybe (restored lines image)
stop_now lines s r state holds image m = search (rules, at_rest, more)
