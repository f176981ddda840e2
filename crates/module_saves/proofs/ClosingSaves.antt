-- A closing save: what its steps, each paid for first, come to.
use Rattle.std.proofs.Common.{◌||◌, ◌++◌, if◌then◌else◌, length}
use Rattle.std.specs.Prelude.{MatchResult}
use Rattle.channel_port.specs.Shape.{IsShape}
use Rattle.module_saves.specs.Saves.{Learns}
use Rattle.module_saves.specs.Closing.{EndsWhole, PaysUntil, SavesClosing, arrays_at, calls_in, payments}
use Rattle.module_saves.specs.Device.{IsPlanFor}
use Rattle.module_saves.specs.Saving.{IsAmongEither}
use Rattle.nv_machine.specs.Moves.{SaveProgress, broken_off}
use Rattle.save_device.specs.Device.{MayLeave}
use Rattle.slot_store.proofs.Repeated.{goods_by}
use Rattle.slot_store.specs.Repeating.{FailsWithin, FinishesRepeating}
use Rattle.slot_store.specs.Tries.{calls_tried, goods, is_failed, steps_reached}
use Rattle.std.proofs.lemmas.List.{length-append, length-replicate}
use Rattle.slot_store.proofs.StepsLeft.{left_later, reach_later}
use Rattle.slot_store.specs.Finishing.{Finish, LeavesInFirst, TriesFirst, calls_to_come, step_on, steps_to_come, underway}
use Rattle.slot_store.specs.Outcomes.{Found}
use Rattle.slot_store.specs.Rest.{Candidates}
use Rattle.slot_store.specs.Runs.{newest_made}
use Rattle.slot_store.specs.Saving.{Leaves, image_of}
use Rattle.slot_store.specs.Slots.{IsCapacity}
use Rattle.slot_store.specs.Steps.{calls_left, step_later, steps_left}
use Rattle.module_saves.proofs.Common.{ℕ, ◌+◌, ◌<◌, ◌∙◌, ◌≡◌, ◌≢◌, ◌≤◌, ◌⊎◌, Action, Bool, CallKind, ChannelsView, Close, Costs, DeviceState, Done, Err, Gauge, HoldsWhile, Image, IsAmong, IsReadyToClose, IsSaving, Knows, LeavesOnly, List, Newest, None, Ok, Option, Outcome, Plan, ReachesStore, SaveRun, Saves, SavingAt, Shape, Slot, Some, Step, Store, ap, arith, begun_save, closed_before, false, inl, inr, next_of, plan_of, present, refl, save_actions, saved_in, saves_at, subst, suc, sym, tried_of, true, weaker}
use Rattle.module_saves.proofs.ClosingSteps.{actions_left, paid_until}
use Rattle.module_saves.proofs.ClosingStores.{knows_given_up, leaves_in, new_given_up, progress, rests_given_up, store_given_up}
use Rattle.module_saves.proofs.Knowing.{knows_saved}
use Rattle.module_saves.proofs.StoreSteps.{closed_as, holds_saved, image_is, is_saving, new_in, saving_as, stop_now}

-- as many calls as steps
page_count : (closed : Bool) (lines : ℕ) → length (calls_left closed lines Close) ≡ steps_left lines Close
page_count closed lines = simp (length-append, length-replicate) (omega arith)

-- The save had been taken from what the module knew, and what it says in the end is kept.
module _ (shape : Shape) (shaped : IsShape shape) (s : Store) (made : Image) (old : Saves) (before : DeviceState) (gauge : Gauge) (ready : IsReadyToClose shape.lines s made old before)
    (run : SaveRun) (runs : old.saving ≡ Some run) (channels : ChannelsView) (array : channels.array ≡ made.memory) (same : channels.shape ≡ shape) (later : SaveRun) (after : DeviceState) (left : Gauge)
    (taken new : Saves) (same_newest : taken.newest ≡ old.newest) (same_unsettled : taken.unsettled ≡ old.unsettled) (none : taken.saving ≡ None) (learned : Learns later taken new)
    (repeats : ℕ) (repeats_are : repeats ≡ shape.costs.retries) where
  abbrev lines : ℕ
  lines = shape.lines

  abbrev costs : Costs
  costs = shape.costs

  abbrev begun : Store
  begun = record s { saving = Some (begun_save made) }

  abbrev plan : Plan
  plan = plan_of run

  v : IsSaving lines begun (begun_save made) run before
  v = is_saving lines begun (begun_save made) run before (Some (begun_save made)) old.saving refl runs ready.holds

  p : IsPlanFor lines s made plan
  p = record { slot = v.plan.slot; generation = v.plan.generation; count = v.plan.count; arm = v.plan.arm; lines_are = v.plan.lines_are; rises = v.plan.rises }

  untried : tried_of run ≡ false
  untried = ready.untried run runs

  capacity : IsCapacity lines
  capacity = subst IsCapacity p.lines_are plan.capacity

  -- the steps, with the lines of the shape
  abbrev step : ℕ → Step
  step n = step_later lines Close n

  at : (n : ℕ) → step_on run n ≡ step n
  at n = ap (λ (k : ℕ). step_later k (next_of run) n) p.lines_are ∙ ap (λ (x : Step). step_later lines x n) v.next

  -- how many steps are left behind a later one
  fewer : (tried : Bool) (k n : ℕ) → n ≤ steps_left lines Close → k < (if tried then suc n else n) → steps_left lines (step k) < 3 → steps_left lines (step n) < (if tried then 3 else 2)
  fewer tried k n most before few = by tried before
    where
      remaining : (j : ℕ) → j ≤ steps_left lines Close → steps_left lines (step j) + j ≡ steps_left lines Close
      remaining j within = left_later lines capacity Close (omega arith) j within

      by : (tried : Bool) → k < (if tried then suc n else n) → steps_left lines (step n) < (if tried then 3 else 2)
      by true before = omega (arith, few, remaining k (omega (arith, before, most)), remaining n most)
      by false before = omega (arith, few, remaining k (omega (arith, before, most)), remaining n most)

  all_steps : steps_to_come run ≡ steps_left lines Close
  all_steps = ap (λ (k : ℕ). steps_left k (next_of run)) p.lines_are ∙ ap (steps_left lines) v.next

  all_calls : calls_to_come run ≡ calls_in lines s
  all_calls =
      ap (λ (b : Bool). calls_left b plan.lines (next_of run)) (sym (v.shut)) ∙ ap (λ (k : ℕ). calls_left s.closed k (next_of run)) p.lines_are ∙ ap (calls_left s.closed lines) v.next

  module _ (finish : Finish) (told : FinishesRepeating payments repeats finish (underway (arrays_at channels gauge) run before) (underway (arrays_at channels left) later after)) where
    abbrev n : ℕ
    n = goods told.tries

    next_is : next_of later ≡ step n
    next_is = told.stands.next ∙ at n

    tries : TriesFirst made.memory (steps_reached told.tries) run before later after
    tries = subst (λ (memory : List (List ℕ)). TriesFirst memory (steps_reached told.tries) run before later after) array told.steps

    still : (next : Step) (tried : Bool) → next_of later ≡ next → tried_of later ≡ tried → SavingAt v.candidates v.image plan made.memory next tried after
    still next tried next_is tried_is = saving_as later plan next tried told.stands.plan next_is tried_is v.candidates v.image made.memory after (tries.saving v.candidates v.image v.saving)

    -- what a stop leaves, where the new image may be found from the opening of the gate on
    moments : (end : Store) → ((k : ℕ) → k < steps_reached told.tries → steps_left lines (step k) < 3 → (o : Outcome) → o ≡ Found plan.slot (image_of plan made.memory) → IsAmong end.maybe o) → LeavesOnly before after (IsAmongEither lines s end)
    moments end found = weaker before after each (tries.any_moment v.candidates v.image v.saving)
      where
        each : (image : List ℕ) → MayLeave (present before) image ⊎ LeavesInFirst v.candidates v.image made.memory run (steps_reached told.tries) image → IsAmongEither lines s end image
        each image (inl may) = inl (stop_now lines begun old.saving before ready.holds image may)
        each image (inr first) =
            leaves_in lines s v.candidates v.image made plan p v.newest v.among end.maybe (step first.0) (found first.0 first.1) image
            (subst (λ (x : Step). Leaves v.candidates v.image plan made.memory x image) (at first.0) first.2)

    how_many : MatchResult finish (λ done. n ≡ steps_to_come run) (λ why. n < steps_to_come run)
    how_many = goods_by payments repeats finish (underway (arrays_at channels gauge) run before) (underway (arrays_at channels left) later after) told

    calls : after.calls ≡ before.calls ++ calls_tried (calls_in lines s) told.tries
    calls = subst (λ (kinds : List CallKind). after.calls ≡ before.calls ++ calls_tried kinds told.tries) all_calls told.calls

    pays : PaysUntil costs (save_actions costs.pages) finish told.tries gauge left
    pays =
        subst (λ (xs : List Action). PaysUntil costs xs finish told.tries gauge left) (ap (actions_left costs.pages) v.next)
        (paid_until costs plan.lines plan.capacity (p.lines_are ∙ shaped.pages) (next_of run) run.place finish told.tries (arrays_at channels gauge) (arrays_at channels left)
        how_many told.below (ap (λ (x : Shape). x.costs) same) told.asks)

    few : FailsWithin costs.retries finish told.tries
    few = subst (λ (most : ℕ). FailsWithin most finish told.tries) repeats_are told.few

    whole : EndsWhole (calls_in lines s) finish told.tries
    whole = subst (λ (count : ℕ). MatchResult finish (λ done. goods told.tries ≡ count) (λ why. goods told.tries < count)) (all_steps ∙ sym (page_count s.closed lines)) how_many

    -- all was saved
    saves_all : next_of later ≡ Done → ReachesStore lines s (saved_in s made) before new after
    saves_all done =
        let knows : Knows new.newest false false (saved_in s made) = knows_saved lines s made p.rises old.newest old.closed old.unsettled ready.knows new.newest plan ((learned.done done).0 ∙ ap newest_made told.stands.plan) p in
        record {
          knows = record { slot = knows.slot; generation = knows.generation; shut = learned.closed ∙ closed_as later plan Done (tried_of later) told.stands.plan done refl; open_end = (learned.done done).1 };
          holds = subst (λ (r : Option SaveRun). HoldsWhile None r lines (saved_in s made) after) (sym (learned.saving ∙ none))
              (holds_saved lines s v.candidates v.image made plan p v.newest after (tried_of later) (still Done (tried_of later) done refl));
          moments = moments (saved_in s made) (λ k below few o is.
              inl (record { arm = made.arm; own = λ none. refl; found = is ∙ ap (Found plan.slot) (image_is lines s made plan p) ∙ ap (λ (slot : Slot). Found slot made) p.slot }));
        }

    -- it was given up before a step, which failed or wasn't tried
    gives_up : (tried : Bool) → tried_of later ≡ tried → steps_reached told.tries ≡ (if tried then suc n else n) → n < steps_to_come run → next_of later ≢ Done → ReachesStore lines s (store_given_up s made (step n) tried) before new after
    gives_up tried tried_is count more going =
        let here : step n ≢ Done = λ done. going (next_is ∙ done) in let end : Store = store_given_up s made (step n) tried in let kept = learned.going going in
        let knows : Knows old.newest (closed_before plan (step n) tried) (old.unsettled || tried) end = knows_given_up s made old.newest old.closed old.unsettled plan v.shut ready.knows (step n) tried here in
        record {
          knows = record {
            slot = ap (λ (x : Newest). x.slot) (kept.0 ∙ same_newest) ∙ knows.slot;
            generation = ap (λ (x : Newest). x.generation) (kept.0 ∙ same_newest) ∙ knows.generation;
            shut = learned.closed ∙ closed_as later plan (step n) tried told.stands.plan next_is tried_is ∙ knows.shut;
            open_end = kept.1 ∙ ap (λ (b : Bool). taken.unsettled || b) tried_is ∙ ap (λ (b : Bool). b || tried) same_unsettled ∙ knows.open_end;
          };
          holds = subst (λ (r : Option SaveRun). HoldsWhile end.saving r lines end after) (sym (learned.saving ∙ none))
              (rests_given_up lines s v.candidates v.image made plan p v.newest v.among after v.shut (step n) tried here (still (step n) tried next_is tried_is));
          moments = moments end (λ k below few o is.
              let has : end.maybe ≡ record s.maybe { saved = Some made } = new_given_up lines s made (step n) tried (reach_later lines capacity Close (omega arith) n)
              (fewer tried k n (omega (arith, more, all_steps)) (subst (λ (m : ℕ). k < m) count below) few) in
              new_in lines s v.candidates v.image made plan p v.newest end.maybe (ap (λ (c : Candidates). c.slot) has) (ap (λ (c : Candidates). c.saved) has) o is);
        }

  abbrev FinishesSo : Finish → Type 0
  FinishesSo finish = FinishesRepeating payments repeats finish (underway (arrays_at channels gauge) run before) (underway (arrays_at channels left) later after)

  pub saves_closing : (finish : Finish) → FinishesSo finish → SavesClosing shape s made finish (saves_at old before gauge) (saves_at new after left)
  saves_closing (Ok done) told = record {
    tries = told.tries;
    few = few (Ok done) told;
    whole = whole (Ok done) told;
    makes = saves_all (Ok done) told told.ends;
    calls = calls (Ok done) told;
    pays = pays (Ok done) told;
  }
  saves_closing (Err why) told =
      let failed : Bool = is_failed false told.tries in
      let tried_is : tried_of later ≡ failed = told.stands.tried_is ∙ ap (λ (b : Bool). is_failed b told.tries) untried in
      record {
        tries = told.tries;
        few = few (Err why) told;
        whole = whole (Err why) told;
        makes = subst (λ (at : SaveProgress). ReachesStore lines s (broken_off at.store made at.next failed) before new after) (sym (progress lines s made (goods told.tries)))
            (gives_up (Err why) told failed tried_is refl (how_many (Err why) told) told.ends);
        calls = calls (Err why) told;
        pays = pays (Err why) told;
      }
