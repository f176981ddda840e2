-- A step of a save: what it makes of what the module knows, and of what the device holds.
use Rattle.std.proofs.Common.{◌||◌}
use Rattle.std.proofs.Common.{◌+◌, ◌-◌, ◌<◌, ◌^◌, arith}
use Rattle.std.specs.Prelude.{min}
use Rattle.module_saves.specs.Saves.{FailsIn, IsReadyFor, Learns, closed_of}
use Rattle.module_saves.specs.declared.saves.StepFault.{StepFault}
use Rattle.module_saves.specs.declared.saves.StepFault.TheVariants as fault
use Rattle.module_saves.specs.Saving.{IsAmongEither, store_after}
use Rattle.std.specs.Prelude.{Err}
use Rattle.nv_machine.specs.Moves.{advanced, repeated, torn}
use Rattle.slot_store.specs.Runs.{failures_of}
use Rattle.save_device.specs.Changes.{Put, Settle, call_of}
use Rattle.save_device.specs.declared.calls.CallKind.TheVariants.{Sync}
use Rattle.slot_store.proofs.StepsMade.{TriesStep}
use Rattle.slot_store.specs.Changes.{change_of, gate_of}
use Rattle.slot_store.specs.Runs.{newest_made}
use Rattle.slot_store.specs.Saving.{Leaves}
use Rattle.module_saves.proofs.Common.{[], if◌then◌else◌, ℕ, ◌∙◌, ◌∷◌, ◌≡◌, ◌≢◌, Bool, Close, DeviceState, Done, GivesPage, HoldsWhile, IsSaving, Knows, LeavesOnly, List, Newest, None, Option, Plan, ReachesStore, RunningSave, SaveRun, Saves, SavingAt, Some, Step, Store, SyncOpen, Write, after_step, ap, closed_before, false, next_of, plan_of, refl, rules, saved_in, step_after, step_call, step_failed, stepped, subst, sym, tried_of, true, weaker}
use Rattle.module_saves.proofs.Knowing.{knows_failed, knows_next, knows_saved, knows_torn}
use Rattle.module_saves.proofs.RunningSaves.{stepped_is}
use Rattle.module_saves.proofs.StoreSteps.{closed_as, holds_failed, holds_next, holds_saved, holds_torn, is_saving, left_failed, left_stepped, left_torn, saving_as}

-- whether a call has failed, where the last one did or didn't
pub or_true : (b : Bool) → (b || true) ≡ true
or_true true = refl
or_true false = refl

pub or_false : (b : Bool) → (b || false) ≡ b
or_false true = refl
or_false false = refl

-- the last step
last_step : (lines : ℕ) (next : Step) → next ≢ Done → step_after lines next ≡ Done → next ≡ SyncOpen
last_step lines next going last = search rules

-- the call of a step
pub kind_is : (plan : Plan) (digest : List ℕ) (next : Step) (page : List ℕ) → call_of (change_of plan digest next page) ≡ step_call plan.closed next
kind_is plan digest Close page = by_gate plan.closed
  where
    by_gate : (b : Bool) → call_of (if b then Settle else Put (gate_of plan) (0 ∷ [])) ≡ (if b then Sync else Write)
    by_gate true = refl
    by_gate false = refl
kind_is plan digest next page = refl

-- A save's step: the module had taken the save from what it knew.
module _ (lines : ℕ) (s : Store) (save : RunningSave) (saves : Saves) (page : List ℕ) (before : DeviceState) (ready : IsReadyFor lines s save saves page before)
    (run : SaveRun) (runs : saves.saving ≡ Some run) (later : SaveRun) (now : DeviceState) where
  v : IsSaving lines s save run before
  v = is_saving lines s save run before s.saving saves.saving ready.runs runs ready.holds

  abbrev plan : Plan
  plan = plan_of run

  module _ (good : Bool) (step : TriesStep good page run before later now) where
    -- the save afterwards
    still : (next : Step) (tried : Bool) → next_of later ≡ next → tried_of later ≡ tried → SavingAt v.candidates v.image plan save.made.memory next tried now
    still next tried next_is tried_is =
        let given : GivesPage save.made.memory (next_of run) page = subst (λ (x : Step). GivesPage save.made.memory x page) (sym v.next) ready.gives in
        saving_as later plan next tried step.next.plan next_is tried_is v.candidates v.image save.made.memory now (step.saving v.candidates v.image save.made.memory given v.saving)

    leaves : (image : List ℕ) → Leaves v.candidates v.image plan save.made.memory (next_of run) image → Leaves v.candidates v.image plan save.made.memory save.next image
    leaves image left = subst (λ (x : Step). Leaves v.candidates v.image plan save.made.memory x image) v.next left

    stops : LeavesOnly before now (Leaves v.candidates v.image plan save.made.memory (next_of run))
    stops = step.any_moment v.candidates v.image save.made.memory v.saving

  -- the device failed in it, and it is made again
  module _ (step : TriesStep false page run before later now) (fewer : failures_of run < 2 ^ 64 - 1) where
    failed_at : next_of later ≡ save.next
    failed_at = step.next.next ∙ v.next

    again : failures_of later ≡ save.repeats + 1
    again = let counted : failures_of later ≡ min (failures_of run + 1) (2 ^ 64 - 1) = step.next.failures in let was : failures_of run ≡ save.repeats = v.again in omega (arith, counted, fewer, was)

    pub fails_again : (on : Saves) → on.newest ≡ saves.newest → on.closed ≡ closed_of later → on.unsettled ≡ saves.unsettled → on.saving ≡ Some later
        → ReachesStore lines s (repeated save (torn s save.made save.next)) before on now
    fails_again on newest closed unsettled saving =
        let given : GivesPage save.made.memory (next_of run) page = subst (λ (x : Step). GivesPage save.made.memory x page) (sym v.next) ready.gives in
        let after : Store = repeated save (torn s save.made save.next) in let more : RunningSave = record save { repeats = save.repeats + 1 } in
        let holds : IsSaving lines after more later now =
        holds_torn lines s v.candidates v.image save.made plan v.plan v.newest now save.next (tried_of run) save.repeats later step.next.plan failed_at step.next.tried again v.shut v.among v.going
        (step.saving v.candidates v.image save.made.memory given v.saving) in
        let shut : on.closed ≡ (torn s save.made save.next).closed = closed ∙ ap (λ (x : Step). closed_before (plan_of later) x (tried_of later)) failed_at ∙ sym holds.shut in
        let knows : Knows saves.newest on.closed saves.unsettled after = knows_torn lines s save.made v.plan.rises saves.newest saves.closed saves.unsettled ready.knows save.next save.repeats on.closed shut in
        record {
          knows = record {
            slot = ap (λ (x : Newest). x.slot) newest ∙ knows.slot;
            generation = ap (λ (x : Newest). x.generation) newest ∙ knows.generation;
            shut = knows.shut;
            open_end = unsettled ∙ knows.open_end;
          };
          holds = subst (λ (r : Option SaveRun). HoldsWhile after.saving r lines after now) (sym saving) holds;
          moments = weaker before now (λ image left. left_torn lines s v.candidates v.image save.made plan v.plan v.newest save.next (tried_of run) image v.among (leaves false step image left)) (stops false step);
        }

  -- The module keeps what the save says.
  module _ (taken new : Saves) (same_newest : taken.newest ≡ saves.newest) (same_unsettled : taken.unsettled ≡ saves.unsettled) (none : taken.saving ≡ None) (learned : Learns later taken new) where
    -- the device failed in it, which ends the save
    pub fails : TriesStep false page run before later now → ReachesStore lines s (step_failed s save.made save.next) before new now
    fails step =
        let at : next_of later ≡ save.next = step.next.next ∙ v.next in
        let told = learned.going (λ done. v.going (sym at ∙ done)) in
        let knows : Knows saves.newest (closed_before plan save.next true) true (step_failed s save.made save.next) = knows_failed lines s save.made v.plan.rises saves.newest saves.closed saves.unsettled ready.knows plan save.next (tried_of run) v.going v.shut in
        record {
          knows = record {
            slot = ap (λ (x : Newest). x.slot) (told.0 ∙ same_newest) ∙ knows.slot;
            generation = ap (λ (x : Newest). x.generation) (told.0 ∙ same_newest) ∙ knows.generation;
            shut = learned.closed ∙ closed_as later plan save.next true step.next.plan at step.next.tried ∙ knows.shut;
            open_end = told.1 ∙ ap (λ (b : Bool). taken.unsettled || b) step.next.tried ∙ or_true taken.unsettled ∙ knows.open_end;
          };
          holds = subst (λ (r : Option SaveRun). HoldsWhile (step_failed s save.made save.next).saving r lines (step_failed s save.made save.next) now) (sym (learned.saving ∙ none))
              (holds_failed lines s v.candidates v.image save.made plan v.plan v.newest now save.next (tried_of run) v.going v.shut v.among (still false step save.next true at step.next.tried));
          moments = weaker before now (λ image left. left_failed lines s v.candidates v.image save.made plan v.plan v.newest save.next (tried_of run) image v.among (leaves false step image left)) (stops false step);
        }

    module _ (step : TriesStep true page run before later now) where
      then_is : next_of later ≡ step_after lines save.next
      then_is = step.next.next ∙ ap (λ (n : ℕ). step_after n (next_of run)) v.plan.lines_are ∙ ap (step_after lines) v.next

      moments : LeavesOnly before now (IsAmongEither lines s (after_step lines s save save.next))
      moments = weaker before now (λ image left. left_stepped lines s v.candidates v.image save.made plan v.plan v.newest save.next save.repeats (tried_of run) image v.among (leaves true step image left)) (stops true step)

      -- it was the last one
      pub ends : next_of later ≡ Done → ReachesStore lines s (after_step lines s save save.next) before new now
      ends done =
          let last : save.next ≡ SyncOpen = last_step lines save.next v.going (sym then_is ∙ done) in
          let knows : Knows new.newest false false (saved_in s save.made) = knows_saved lines s save.made v.plan.rises saves.newest saves.closed saves.unsettled ready.knows new.newest plan ((learned.done done).0 ∙ ap newest_made step.next.plan) v.plan in
          let saved : saved_in s save.made ≡ after_step lines s save save.next = sym (ap (after_step lines s save) last) in
          record {
            knows = subst (λ (t : Store). Knows new.newest new.closed new.unsettled t) saved (record {
              slot = knows.slot;
              generation = knows.generation;
              shut = learned.closed ∙ closed_as later plan Done false step.next.plan done step.next.tried;
              open_end = (learned.done done).1;
            });
            holds = subst (λ (t : Store). HoldsWhile t.saving new.saving lines t now) saved
                (subst (λ (r : Option SaveRun). HoldsWhile None r lines (saved_in s save.made) now) (sym (learned.saving ∙ none))
                (holds_saved lines s v.candidates v.image save.made plan v.plan v.newest now false (still true step Done false done step.next.tried)));
            moments = moments;
          }

      -- it wasn't, and the save goes on
      pub goes_on : next_of later ≢ Done → (on : Saves) → on.newest ≡ new.newest → on.closed ≡ new.closed → on.unsettled ≡ new.unsettled → on.saving ≡ Some later → ReachesStore lines s (after_step lines s save save.next) before on now
      goes_on going on newest closed unsettled saving =
          let further : save.next ≢ SyncOpen = λ last. going (then_is ∙ ap (step_after lines) last) in
          let after : Store = advanced lines save (stepped s save.made save.next) in
          let is : after_step lines s save save.next ≡ after = stepped_is lines s save save.next further in
          let given : GivesPage save.made.memory (next_of run) page = subst (λ (x : Step). GivesPage save.made.memory x page) (sym v.next) ready.gives in
          let holds : IsSaving lines (after_step lines s save save.next) (record save { next = step_after lines save.next }) later now =
          holds_next lines s v.candidates v.image save.made plan v.plan v.newest now save.next (tried_of run) save.repeats later step.next.plan then_is step.next.tried (step.next.failures ∙ v.again) v.shut v.among (λ done. going (then_is ∙ done)) (step.saving v.candidates v.image save.made.memory given v.saving) in
          let shut : on.closed ≡ (after_step lines s save save.next).closed =
          closed ∙ learned.closed ∙ ap (λ (x : Step). closed_before (plan_of later) x (tried_of later)) then_is ∙ sym holds.shut in
          let knows : Knows saves.newest on.closed saves.unsettled (after_step lines s save save.next) = knows_next lines s save.made v.plan.rises saves.newest saves.closed saves.unsettled ready.knows save.next save.repeats further on.closed shut in
          let told = learned.going going in
          record {
            knows = record {
              slot = ap (λ (x : Newest). x.slot) (newest ∙ told.0 ∙ same_newest) ∙ knows.slot;
              generation = ap (λ (x : Newest). x.generation) (newest ∙ told.0 ∙ same_newest) ∙ knows.generation;
              shut = knows.shut;
              open_end = unsettled ∙ told.1 ∙ ap (λ (b : Bool). taken.unsettled || b) step.next.tried ∙ or_false taken.unsettled ∙ same_unsettled ∙ knows.open_end;
            };
            holds = subst (λ (t : Store). HoldsWhile t.saving on.saving lines t now) (sym is)
                (subst (λ (r : Option SaveRun). HoldsWhile after.saving r lines after now) (sym saving) (subst (λ (t : Store). IsSaving lines t (record save { next = step_after lines save.next }) later now) is holds));
            moments = moments;
          }

  -- the device failed in it, and it is made again or has ended the save
  pub fails_in : (taken new : Saves) → taken.newest ≡ saves.newest → taken.unsettled ≡ saves.unsettled → taken.saving ≡ None → (why : StepFault) (again : Bool) → FailsIn later again why taken new
      → (again ≡ true → failures_of run < 2 ^ 64 - 1) → TriesStep false page run before later now → ReachesStore lines s (store_after {T = Option Step} lines s save (Err why)) before new now
  fails_in taken new same_newest same_unsettled none fault.Again may failed fewer step =
      let kept = failed.1 in fails_again step (fewer failed.0) new (kept.newest ∙ same_newest) kept.closed (kept.unsettled ∙ same_unsettled) kept.saving
  fails_in taken new same_newest same_unsettled none fault.Ended may failed fewer step = fails taken new same_newest same_unsettled none failed.1 step
