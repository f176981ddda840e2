-- What the module knows of the store, and what the device holds after a call that makes no device call.
use Rattle.module_saves.specs.Saves.{StoreMoves}
use Rattle.module_saves.specs.Device.{IsPlanFor}
use Rattle.save_image.specs.Header.{arm_byte}
use Rattle.slot_store.specs.Rest.{IsAtRest}
use Rattle.slot_store.specs.Runs.{newest_made}
use Rattle.nv_machine.specs.Moves.{repeated, torn}
use Rattle.slot_store.specs.declared.plan.Step.TheVariants.{Close}
use Rattle.module_saves.proofs.Common.{ℕ, ◌+◌, ◌∙◌, ◌≡◌, ◌≢◌, BeginsSave, Bool, DeviceState, Done, HoldsWhile, Image, IsMemory, IsResting, IsSaving, Knows, Newest, Option, Plan, SaveRun, Saves, Slot, Some, Step, Store, SyncOpen, after_step, ap, armed, begun_save, closed_before, false, inl, inr, other, plan_of, refl, rules, saved_in, step_failed, subst, sym, true}
use Rattle.module_saves.proofs.StoreSteps.{at_rest}

module _ (lines : ℕ) (s : Store) (made : Image) (rises : made.generation ≡ s.maybe.newest.generation + 1) (newest : Newest) (closed unsettled : Bool) (knows : Knows newest closed unsettled s) where
  -- the module knows the store after a step that went well and wasn't the last one
  pub knows_next : (next : Step) (repeats : ℕ) → next ≢ SyncOpen → (closed' : Bool) → closed' ≡ (after_step lines s (record { made = made; next = next; repeats = repeats }) next).closed
      → Knows newest closed' unsettled (after_step lines s (record { made = made; next = next; repeats = repeats }) next)
  knows_next next repeats going closed' shut = search rules

  -- after one that failed and is made again
  pub knows_torn : (next : Step) (repeats : ℕ) (closed' : Bool) → closed' ≡ (torn s made next).closed → Knows newest closed' unsettled (repeated (record { made = made; next = next; repeats = repeats }) (torn s made next))
  knows_torn next repeats closed' shut = search rules

  -- after the last one
  pub knows_saved : (newest' : Newest) (plan : Plan) → newest' ≡ newest_made plan → IsPlanFor lines s made plan → Knows newest' false false (saved_in s made)
  knows_saved newest' plan is p = record { slot = ap (λ (x : Newest). x.slot) is ∙ p.slot; generation = ap (λ (x : Newest). x.generation) is ∙ p.generation; shut = refl; open_end = refl }

  -- and after one that failed
  pub knows_failed : (plan : Plan) (next : Step) (tried : Bool) → next ≢ Done → s.closed ≡ closed_before plan next tried → Knows newest (closed_before plan next true) true (step_failed s made next)
  knows_failed plan next tried going shut = search rules

module _ (lines : ℕ) (s : Store) (state : DeviceState) where
  -- a save is begun over it
  pub holds_begun : (r : Option SaveRun) (old new : Saves) (made : Image) (armed : Bool) → HoldsWhile s.saving r lines s state → Knows old.newest old.closed old.unsettled s → BeginsSave old made.count armed lines new
      → made.generation ≡ s.maybe.newest.generation + 1 → made.arm ≡ arm_byte armed → IsMemory lines made.memory
      → HoldsWhile (Some (begun_save made)) new.saving lines (record s { saving = Some (begun_save made) }) state
  holds_begun r old new made armed holds knows b rises arm memory =
      let rest : IsResting lines s state = at_rest lines s state s.saving r holds in let plan : Plan = plan_of b.run in let begun = b.begun in
      let p : IsPlanFor lines s made plan = record {
        slot = begun.slot ∙ ap other knows.slot;
        generation = begun.generation ∙ ap (λ (k : ℕ). k + 1) knows.generation ∙ sym rises;
        count = begun.count_is;
        arm = ap arm_byte begun.arm ∙ sym arm;
        lines_are = begun.lines_are;
        rises = rises;
      } in
      let saves : IsSaving lines (record s { saving = Some (begun_save made) }) (begun_save made) b.run state = record {
        candidates = rest.candidates;
        image = rest.image;
        newest = rest.newest;
        plan = record { slot = p.slot; generation = p.generation; count = p.count; arm = p.arm; lines_are = p.lines_are; rises = p.rises };
        next = begun.next;
        again = begun.unfailed;
        saving = begun.saving rest.candidates rest.image made.memory state
            (subst (λ (at : Slot). IsAtRest rest.candidates rest.image at lines old.closed state) (sym knows.slot)
            (subst (λ (c : Bool). IsAtRest rest.candidates rest.image s.maybe.slot lines c state) (sym knows.shut) rest.rest))
            (ap (λ (i : Image). i.generation) rest.newest.is ∙ sym knows.generation) memory;
        shut = sym (ap (closed_before plan Close) begun.untried ∙ begun.shut ∙ knows.shut);
        among = rest.among;
        going = λ is. cc;
      } in
      subst (λ (x : Option SaveRun). HoldsWhile (Some (begun_save made)) x lines (record s { saving = Some (begun_save made) }) state) (sym b.runs) saves

  -- what the device holds after a call that makes no device call
  pub holds_moved : (old new : Saves) (later : Store) → StoreMoves lines s old later new → Knows old.newest old.closed old.unsettled s → HoldsWhile s.saving old.saving lines s state
      → HoldsWhile later.saving new.saving lines later state
  holds_moved old new later (inl same) knows holds =
      subst (λ (x : Store). HoldsWhile x.saving new.saving lines x state) (sym same.0) (subst (λ (x : Saves). HoldsWhile s.saving x.saving lines s state) (sym same.1) holds)
  holds_moved old new later (inr b) knows holds =
      subst (λ (x : Store). HoldsWhile x.saving new.saving lines x state) (sym b.is) (holds_begun old.saving old new b.made b.is_armed holds knows b.begins b.rises b.arm b.memory)
