-- The store between the steps of a closing save.
use Rattle.std.proofs.Common.{◌*◌, ◌||◌, zero, ⊎_elim}
use Rattle.module_saves.specs.Device.{AreAmong, FindsNewest, IsPlanFor}
use Rattle.nv_machine.specs.Moves.{SaveProgress, broken_off}
use Rattle.slot_store.proofs.Standing.{below_or_not}
use Rattle.slot_store.specs.Outcomes.{Found}
use Rattle.slot_store.specs.Rest.{Candidates}
use Rattle.slot_store.specs.Saving.{FindsNew, FindsOld, Leaves, image_of, old_and_new, only_old}
use Rattle.slot_store.specs.Steps.{reach_of, step_later, steps_left}
use Rattle.slot_store.specs.declared.plan.Step.TheVariants.{Header, Open}
use Rattle.module_saves.proofs.Common.{if◌then◌else◌, ℕ, ◌+◌, ◌<◌, ◌∙◌, ◌≡◌, ◌≢◌, ◌≤◌, ◌⊎◌, Bool, Close, DeviceState, Done, HoldsWhile, Image, IsAmong, Knows, List, Newest, None, Outcome, Page, Plan, SavingAt, Some, Step, Store, SyncClosed, SyncOpen, after_steps, ap, arith, closed_before, false, inl, inr, other, refl, restored, rules, step_after, stepped, subst, suc, sym, true}
use Rattle.module_saves.proofs.StoreSteps.{alone_in, both_in, here, old_in, rests_in}

-- the store before a step of a save of this image, as this store began it
abbrev pub store_before : Store → Image → Step → Store
store_before s made Close = s
store_before s made SyncClosed = s
store_before s made SyncOpen = record s { maybe = record s.maybe { saved = Some made }; closed = false }
store_before s made Done = record s { maybe = record s.maybe { saved = Some made }; closed = false }
store_before s made step = record s { maybe = record s.maybe { saved = None }; closed = true }

stepped_before : (lines : ℕ) (s : Store) (made : Image) (step : Step) → stepped (store_before s made step) made step ≡ store_before s made (step_after lines step)
stepped_before lines s made (Page k) = elim (below_or_not lines (64 * (k + 2))) [
  | inl last ↦ ap (λ (b : Bool). store_before s made (if b then Header else Page (k + 1))) (sym last.0)
  | inr further ↦ ap (λ (b : Bool). store_before s made (if b then Header else Page (k + 1))) (sym further.0)
]
stepped_before lines s made step = refl

-- how far a save has come after so many steps
pub progress : (lines : ℕ) (s : Store) (made : Image) (n : ℕ) → let step = step_later lines Close n in after_steps lines s made n ≡ record { next = step; store = store_before s made step }
progress lines s made zero = refl
progress lines s made (suc n) =
    let step = step_later lines Close n in
    ap (λ (at : SaveProgress). record { next = step_after lines at.next; store = stepped at.store made at.next }) (progress lines s made n)
    ∙ ap (λ (store : Store). record { next = step_after lines step; store = store }) (stepped_before lines s made step)

-- the store where the save is given up before a step, which failed or wasn't tried
abbrev pub store_given_up : Store → Image → Step → Bool → Store
store_given_up s made step tried = broken_off (store_before s made step) made step tried

-- behind the opening of the gate, or where that failed, the new image may be found
pub new_given_up : (lines : ℕ) (s : Store) (made : Image) (step : Step) (tried : Bool) → reach_of step ≤ lines → steps_left lines step < (if tried then 3 else 2)
    → (store_given_up s made step tried).maybe ≡ record s.maybe { saved = Some made }
new_given_up lines s made step tried reach few = search rules

-- what the module knows then
pub knows_given_up : (s : Store) (made : Image) (newest : Newest) (closed unsettled : Bool) (plan : Plan) → s.closed ≡ plan.closed → Knows newest closed unsettled s → (step : Step) (tried : Bool) → step ≢ Done
    → Knows newest (closed_before plan step tried) (unsettled || tried) (store_given_up s made step tried)
knows_given_up s made newest closed unsettled plan shut knows step tried going = search rules

module _ (lines : ℕ) (s : Store) (candidates : Candidates) (image made : Image) (plan : Plan) (p : IsPlanFor lines s made plan) (n : FindsNewest s.maybe image) (among : AreAmong candidates s.maybe) where
  old_left : (left : List ℕ) → FindsOld image plan left → IsAmong s.maybe (restored lines left)
  old_left left old = old_in lines s candidates image made plan p n s.maybe refl refl refl (restored lines left) (here lines s candidates image made plan p n left (Found (other plan.slot) image) old)

  new_left : (left : List ℕ) → FindsNew plan made.memory left → restored lines left ≡ Found plan.slot (image_of plan made.memory)
  new_left left is = here lines s candidates image made plan p n left (Found plan.slot (image_of plan made.memory)) is

  -- what a stop in a step leaves, where the new image may be found of a later store
  pub leaves_in : (later : Candidates) (step : Step) → (steps_left lines step < 3 → (o : Outcome) → o ≡ Found plan.slot (image_of plan made.memory) → IsAmong later o)
      → (left : List ℕ) → Leaves candidates image plan made.memory step left → IsAmong s.maybe (restored lines left) ⊎ IsAmong later (restored lines left)
  leaves_in later Close new left leaves = inl (among (restored lines left) (subst (λ (k : ℕ). IsAmong candidates (restored k left)) p.lines_are leaves))
  leaves_in later SyncClosed new left leaves = inl (among (restored lines left) (subst (λ (k : ℕ). IsAmong candidates (restored k left)) p.lines_are leaves))
  leaves_in later Open new left leaves = ⊎_elim (λ old. inl (old_left left old)) (λ is. inr (new (omega arith) (restored lines left) (new_left left is))) leaves
  leaves_in later SyncOpen new left leaves = ⊎_elim (λ old. inl (old_left left old)) (λ is. inr (new (omega arith) (restored lines left) (new_left left is))) leaves
  leaves_in later Done new left leaves = inr (new (omega arith) (restored lines left) (new_left left leaves))
  leaves_in later step new left leaves = inl (old_left left leaves)

  -- the old image alone may be found, or the new one too
  alone : AreAmong (only_old image plan) (record s.maybe { saved = None })
  alone = alone_in lines s candidates image made plan p n (record s.maybe { saved = None }) refl refl refl

  both : AreAmong (old_and_new image plan made.memory) (record s.maybe { saved = Some made })
  both = both_in lines s candidates image made plan p n (record s.maybe { saved = Some made }) refl refl refl refl

  module _ (state : DeviceState) (shut : s.closed ≡ plan.closed) where
    -- the device rests where the save is given up
    pub rests_given_up : (step : Step) (tried : Bool) → step ≢ Done → SavingAt candidates image plan made.memory step tried state
        → HoldsWhile (store_given_up s made step tried).saving None lines (store_given_up s made step tried) state
    rests_given_up Close false going saving = rests_in lines s candidates image made plan p n state (store_given_up s made Close false) refl refl refl Close false going shut among saving
    rests_given_up Close true going saving = rests_in lines s candidates image made plan p n state (store_given_up s made Close true) refl refl refl Close true going shut among saving
    rests_given_up SyncClosed false going saving = rests_in lines s candidates image made plan p n state (store_given_up s made SyncClosed false) refl refl refl SyncClosed false going shut among saving
    rests_given_up SyncClosed true going saving = rests_in lines s candidates image made plan p n state (store_given_up s made SyncClosed true) refl refl refl SyncClosed true going shut among saving
    rests_given_up Open true going saving = rests_in lines s candidates image made plan p n state (store_given_up s made Open true) refl refl refl Open true going refl both saving
    rests_given_up SyncOpen false going saving = rests_in lines s candidates image made plan p n state (store_given_up s made SyncOpen false) refl refl refl SyncOpen false going refl both saving
    rests_given_up SyncOpen true going saving = rests_in lines s candidates image made plan p n state (store_given_up s made SyncOpen true) refl refl refl SyncOpen true going refl both saving
    rests_given_up Done tried going saving = absurd (going refl)
    rests_given_up step false going saving = rests_in lines s candidates image made plan p n state (store_given_up s made step false) refl refl refl step false going refl alone saving
    rests_given_up step true going saving = rests_in lines s candidates image made plan p n state (store_given_up s made step true) refl refl refl step true going refl alone saving
