-- The steps of a save that is finished, one after another.
use Rattle.std.proofs.Math.Seq.{drop-cons}
use Rattle.std.specs.Prelude.{MatchResult}
use Rattle.std.proofs.lemmas.List.{append_assoc, map-append, take-append-drop}
use Rattle.std.proofs.lemmas.Option.{get_or_from_slice_get, slice_get_within}
use Rattle.save_device.proofs.Moments.{started}
use Rattle.save_device.specs.Calls.{all_good, called}
use Rattle.save_device.specs.Changes.{call_of}
use Rattle.save_device.specs.declared.calls.Call.{Call}
use Rattle.save_device.specs.declared.calls.CallKind.{CallKind}
use Rattle.slot_store.specs.Finishing.{AsksFor, Finish, Finishes, GrantsEach, GrantsFirst, LeavesInFirst, StandsAfter, TriesFirst, Underway, calls_to_come, is_tried, steps_tried, underway}
use Rattle.slot_store.specs.Runs.{GoesOnFrom, HasSoFar, MakesStep, Saving, next_of, plan_of, tried_of}
use Rattle.slot_store.specs.declared.saving.SaveRun.{SaveRun}
use Rattle.slot_store.specs.declared.source.Refused.{Refused}
use Rattle.slot_store.specs.declared.source.SaveSource.{Ghosts}
use Rattle.slot_store.specs.declared.source.BrokenOff.TheVariants as broken
use Rattle.slot_store.proofs.Common.{[], ℕ, ◌++◌, ◌+◌, ◌<◌, ◌∙◌, ◌∷◌, ◌≡◌, ◌≢◌, ◌⊎◌, Bool, BrokenOff, CallsFor, Candidates, Close, DeviceState, DiffersOnlyAt, Done, Err, GivesPage, Header, Image, IsInRange, IsMemory, Leaves, LeavesOnly, List, MakesCalls, MayLeave, Ok, Open, Page, Plan, Result, Step, SyncBody, SyncClosed, SyncOpen, and_then, ap, append-nil, arith, calls_left, change_of, device_size, drop, false, gate_of, get_or, inl, inr, steps_to_come, length, present, refl, slot_size, step_after, step_on, steps_left, subst, suc, sym, take, true, weaker, zero}
use Rattle.slot_store.proofs.StepsLeft.{ComesAt, calls_left-after, comes_at, no_steps_left, steps_left-after}
use Rattle.slot_store.proofs.Standing.{below_or_not}
use Rattle.slot_store.proofs.Stops.{sized_within}

-- one call more, which went well
calls_more : (kinds behind : List CallKind) (n : ℕ) (kind : CallKind) (old now new : List Call) → ComesAt kinds n kind behind → now ≡ old ++ all_good (take n kinds) → new ≡ now ++ called kind true ∷ []
    → new ≡ old ++ all_good (take (suc n) kinds)
calls_more kinds behind n kind old now new comes so more =
    more ∙ ap (λ (calls : List Call). calls ++ called kind true ∷ []) so ∙ append_assoc old (all_good (take n kinds)) (called kind true ∷ [])
    ∙ ap (λ (calls : List Call). old ++ calls) (sym (map-append (λ k. called k true) (take n kinds) (kind ∷ [])) ∙ ap all_good (sym comes.taken))

-- where the calls end with one that failed
pub calls_failed : (kinds : List CallKind) (made : ℕ) (old new : List Call) → CallsFor kinds (Err broken.Fault) made old new → MakesCalls kinds false old new
calls_failed kinds made old new calls =
    let less : made < length kinds = slice_get_within kinds made calls.0 calls.1 in
    let is : get_or kinds made calls.0 ≡ calls.0 = get_or_from_slice_get kinds made calls.0 calls.0 calls.1 in
    record {
      done = take made kinds;
      fails = calls.0;
      rest = drop (suc made) kinds;
      in_order = sym (take-append-drop made kinds) ∙ ap (λ (left : List CallKind). take made kinds ++ left) (drop-cons kinds made calls.0 less ∙ ap (λ (kind : CallKind). kind ∷ drop (suc made) kinds) is);
      made = calls.2;
    }

-- where each step is granted, only a fault breaks a save off
pub only_faults : {S : Type 0} (step : ℕ → Step) (why : BrokenOff) (made : ℕ) (old new : S) → AsksFor GrantsEach step (Err why) made old new → why ≡ broken.Fault
only_faults step broken.Refused made old new asked = let none : Err asked.1 ≡ Ok tt = asked.3.0 in absurd (let bad : ⊥ = cc in bad)
only_faults step broken.Fault made old new asked = refl

-- what each ask keeps is kept
module _ {S X : Type 0} (asks : S → Step → Result (Unit {0}) Refused → S → Type 0) (kept : S → X) (keeps : (old : S) (s : Step) (result : Result (Unit {0}) Refused) (new : S) → asks old s result new → kept new ≡ kept old)
    (step : ℕ → Step) where
  granted_keeps : (n : ℕ) (old new : S) → GrantsFirst asks step n old new → kept new ≡ kept old
  granted_keeps zero old new granted = ap kept granted
  granted_keeps (suc n) old new granted = keeps granted.0 (step n) (Ok tt) new granted.2 ∙ granted_keeps n old granted.0 granted.1

  pub asked_keeps : (finish : Finish) (made : ℕ) (old new : S) → AsksFor asks step finish made old new → kept new ≡ kept old
  asked_keeps (Ok done) made old new asked = granted_keeps made old new asked
  asked_keeps (Err broken.Refused) made old new asked = keeps asked.0 (step made) (Err asked.1) new asked.3 ∙ granted_keeps made old asked.0 asked.2
  asked_keeps (Err broken.Fault) made old new asked = granted_keeps (suc made) old new asked

-- all steps were made where the save is done, and not all where it was broken off
pub made_by : {S : Type 0} (G : Ghosts S) (finish : Finish) (old new : Underway S) (told : Finishes G finish old new)
    → MatchResult finish (λ done. told.made ≡ steps_to_come old.run) (λ why. told.made < steps_to_come old.run)
made_by G (Ok done) old new told = let none : steps_to_come new.run ≡ 0 = ap (steps_left (plan_of new.run).lines) told.ends in omega (arith, none, told.stands.left)
made_by G (Err why) old new told = elim (below_or_not 0 (steps_to_come new.run)) [
  | inl some ↦ omega (arith, some.1, told.stands.left)
  | inr none ↦ absurd (told.ends (no_steps_left (plan_of new.run).lines (next_of new.run) new.run.place (omega (arith, none.1))))
]

-- a source that is seen as another one, whose asks follow
module _ {S T : Type 0} (G : Ghosts S) (H : Ghosts T) (see : S → T) (follow : (old : S) (s : Step) (result : Result (Unit {0}) Refused) (new : S) → G.asks old s result new → H.asks (see old) s result (see new)) where
  granted_as : (step : ℕ → Step) (n : ℕ) (old new : S) → GrantsFirst G.asks step n old new → GrantsFirst H.asks step n (see old) (see new)
  granted_as step zero old new granted = ap see granted
  granted_as step (suc n) old new granted = (see granted.0, granted_as step n old granted.0 granted.1, follow granted.0 (step n) (Ok tt) new granted.2)

  asked_as : (step : ℕ → Step) (finish : Finish) (made : ℕ) (old new : S) → AsksFor G.asks step finish made old new → AsksFor H.asks step finish made (see old) (see new)
  asked_as step (Ok done) made old new asked = granted_as step made old new asked
  asked_as step (Err broken.Refused) made old new asked = (see asked.0, asked.1, granted_as step made old asked.0 asked.2, follow asked.0 (step made) (Err asked.1) new asked.3)
  asked_as step (Err broken.Fault) made old new asked = granted_as step (suc made) old new asked

  pub finishes_as : ((source : S) → G.memory source ≡ H.memory (see source)) → (finish : Finish) (old new : Underway S) → Finishes G finish old new
      → Finishes H finish (underway (see old.source) old.run old.device) (underway (see new.source) new.run new.device)
  finishes_as same finish old new told = record {
    made = told.made;
    stands = told.stands;
    ends = told.ends;
    asks = asked_as (step_on old.run) finish told.made old.source new.source told.asks;
    calls = told.calls;
    memory = sym (same new.source) ∙ told.memory ∙ same old.source;
    tries = subst (λ (memory : List (List ℕ)). TriesFirst memory (steps_tried finish told.made) old.run old.device new.run new.device) (same old.source) told.tries;
  }

-- a step makes one call whatever its digest is
same_kind : (plan : Plan) (one two : List ℕ) (next : Step) (page : List ℕ) → call_of (change_of plan one next page) ≡ call_of (change_of plan two next page)
same_kind plan one two Close page = refl
same_kind plan one two SyncClosed page = refl
same_kind plan one two (Page k) page = refl
same_kind plan one two Header page = refl
same_kind plan one two SyncBody page = refl
same_kind plan one two Open page = refl
same_kind plan one two SyncOpen page = refl
same_kind plan one two Done page = refl

-- one step of a save, as `SaveRun::step` tells of it
pub record TriesStep (good : Bool) (page : List ℕ) (run : SaveRun) (now : DeviceState) (later : SaveRun) (new : DeviceState) : Type 0 where
  pub call : MakesStep run page good now new
  pub outside : DiffersOnlyAt (IsInRange (gate_of (plan_of run)) (slot_size (plan_of run).lines)) now.bytes new.bytes
  pub next : GoesOnFrom good run later
  pub has : (memory : List (List ℕ)) → IsMemory (plan_of run).lines memory → GivesPage memory (next_of run) page → HasSoFar memory run now → HasSoFar memory later new
  pub saving : (candidates : Candidates) (old : Image) (memory : List (List ℕ)) → GivesPage memory (next_of run) page → Saving candidates old memory run now → Saving candidates old memory later new
  pub any_moment : (candidates : Candidates) (old : Image) (memory : List (List ℕ)) → Saving candidates old memory run now → LeavesOnly now new (Leaves candidates old (plan_of run) memory (next_of run))

module _ {S : Type 0} (G : Ghosts S) (source : S) (run : SaveRun) (old : DeviceState) where
  abbrev memory : List (List ℕ)
  memory = G.memory source

  -- so many steps were made, from the first one on
  pub record HasMade (made : ℕ) (giver : S) (at : SaveRun) (now : DeviceState) : Type 0 where
    pub stands : StandsAfter made (is_tried (Ok tt) made (tried_of run)) run at
    pub granted : GrantsFirst G.asks (step_on run) made source giver
    pub coming : drop made (calls_to_come run) ≡ calls_to_come at
    pub calls : now.calls ≡ old.calls ++ all_good (take made (calls_to_come run))
    pub same : G.memory giver ≡ memory
    pub tries : TriesFirst memory made run old at now

  module _ (size : length old.bytes ≡ device_size (plan_of run).lines) where
    -- before the first one
    pub nothing_made : HasMade 0 source run old
    nothing_made = record {
      stands = record { plan = refl; next = refl; left = omega arith; tried_is = refl };
      granted = refl;
      coming = refl;
      calls = sym (append-nil old.calls);
      same = refl;
      tries = record {
        has = λ is so. so;
        outside = record { size = refl; outside = λ place out. refl };
        size = started old (λ left may. may.size ∙ size);
        saving = λ candidates image s. s;
        any_moment = λ candidates image s. started old (λ left may. inl may);
      };
    }

    module _ (made : ℕ) (giver : S) (at : SaveRun) (now : DeviceState) (m : HasMade made giver at now) where
      -- no step is left
      pub ends_done : steps_to_come at ≡ 0 → Finishes G (Ok tt) (underway source run old) (underway giver at now)
      ends_done none =
          let done : next_of at ≡ Done = no_steps_left (plan_of at).lines (next_of at) at.place none in
          let left : [] ≡ drop made (calls_to_come run) = sym (m.coming ∙ ap (calls_left (plan_of at).closed (plan_of at).lines) done) in
          let all : take made (calls_to_come run) ≡ calls_to_come run = sym (append-nil (take made (calls_to_come run))) ∙ ap (λ (calls : List CallKind). take made (calls_to_come run) ++ calls) left ∙ take-append-drop made (calls_to_come run) in
          record { made = made; stands = m.stands; ends = done; asks = m.granted; calls = m.calls ∙ ap (λ (calls : List CallKind). old.calls ++ all_good calls) all; memory = m.same; tries = m.tries }

      module _ (some : 0 < steps_to_come at) (later_giver : S) (same : G.memory later_giver ≡ G.memory giver) (s : Step) (is : s ≡ next_of at) where
        going : next_of at ≢ Done
        going done = let none : steps_to_come at ≡ 0 = ap (steps_left (plan_of at).lines) done in omega (arith, none, some)

        -- the next step was refused
        pub ends_refused : (refused : Refused) → G.asks giver s (Err refused) later_giver → Finishes G (Err broken.Refused) (underway source run old) (underway later_giver at now)
        ends_refused refused asked =
            let asks : G.asks giver (step_on run made) (Err refused) later_giver = subst (λ (s : Step). G.asks giver s (Err refused) later_giver) (is ∙ m.stands.next) asked in
            record { made = made; stands = m.stands; ends = going; asks = (giver, refused, m.granted, asks); calls = m.calls; memory = same ∙ m.same; tries = m.tries }

        module _ (asked : G.asks giver s (Ok tt) later_giver) (page : List ℕ) (gives : GivesPage (G.memory later_giver) s page) (later : SaveRun) (new : DeviceState) where
          abbrev kind : CallKind
          kind = call_of (change_of (plan_of at) [] (next_of at) page)

          abbrev behind : List CallKind
          behind = calls_left (plan_of at).closed (plan_of at).lines (step_after (plan_of at).lines (next_of at))

          granted : GrantsFirst G.asks (step_on run) (suc made) source later_giver
          granted = (giver, m.granted, subst (λ (s : Step). G.asks giver s (Ok tt) later_giver) (is ∙ m.stands.next) asked)

          comes : ComesAt (calls_to_come run) made kind behind
          comes = comes_at (calls_to_come run) made kind behind (m.coming ∙ calls_left-after (plan_of at) [] (next_of at) page at.place some)

          -- the call that was made
          counted : (good : Bool) → TriesStep good page at now later new → new.calls ≡ now.calls ++ called kind good ∷ []
          counted good step = step.call.makes.call.counted ∙ ap (λ (k : CallKind). now.calls ++ called k good ∷ []) (same_kind (plan_of at) step.call.digest [] (next_of at) page)

          -- one step more was tried
          tries_more : (good : Bool) → TriesStep good page at now later new → TriesFirst memory (suc made) run old later new
          tries_more good step = record {
            has = λ is so. step.has memory (subst (λ (p : Plan). IsMemory p.lines memory) (sym m.stands.plan) is) gives_same (m.tries.has is so);
            outside = record { size = outside.size ∙ m.tries.outside.size; outside = λ place out. outside.outside place out ∙ m.tries.outside.outside place out };
            size = and_then old now new m.tries.size (sized_within (plan_of run).lines now new step.call.makes.call.time now_size (outside.size ∙ now_size));
            saving = λ candidates image s. step.saving candidates image memory gives_same (m.tries.saving candidates image s);
            any_moment = λ candidates image s.
                and_then old now new (weaker old now (before candidates image) (m.tries.any_moment candidates image s))
                (weaker now new (in_step candidates image) (step.any_moment candidates image memory (m.tries.saving candidates image s)));
          }
            where
              outside : DiffersOnlyAt (IsInRange (gate_of (plan_of run)) (slot_size (plan_of run).lines)) now.bytes new.bytes
              outside = subst (λ (p : Plan). DiffersOnlyAt (IsInRange (gate_of p) (slot_size p.lines)) now.bytes new.bytes) m.stands.plan step.outside

              now_size : length now.bytes ≡ device_size (plan_of run).lines
              now_size = m.tries.outside.size ∙ size

              gives_same : GivesPage memory (next_of at) page
              gives_same = subst (λ (s : Step). GivesPage memory s page) is (subst (λ (lines : List (List ℕ)). GivesPage lines s page) (same ∙ m.same) gives)

              in_step : (candidates : Candidates) (image : Image) (left : List ℕ) → Leaves candidates image (plan_of at) memory (next_of at) left → MayLeave (present old) left ⊎ LeavesInFirst candidates image memory run (suc made) left
              in_step candidates image left leaves =
                  let here : Leaves candidates image (plan_of run) memory (next_of at) left = subst (λ (p : Plan). Leaves candidates image p memory (next_of at) left) m.stands.plan leaves in
                  inr (made, omega arith, subst (λ (s : Step). Leaves candidates image (plan_of run) memory s left) m.stands.next here)

              before : (candidates : Candidates) (image : Image) (left : List ℕ) → MayLeave (present old) left ⊎ LeavesInFirst candidates image memory run made left → MayLeave (present old) left ⊎ LeavesInFirst candidates image memory run (suc made) left
              before candidates image left (inl may) = inl may
              before candidates image left (inr first) = inr (first.0, omega (arith, first.1), first.2)

          -- the device failed in it
          pub ends_failed : TriesStep false page at now later new → Finishes G (Err broken.Fault) (underway source run old) (underway later_giver later new)
          ends_failed step =
              let again : steps_to_come later ≡ steps_to_come at = ap (λ (p : Plan). steps_left p.lines (next_of later)) step.next.plan ∙ ap (steps_left (plan_of at).lines) step.next.next in
              let calls : new.calls ≡ old.calls ++ all_good (take made (calls_to_come run)) ++ called kind false ∷ [] = counted false step ∙ ap (λ (calls : List Call). calls ++ called kind false ∷ []) m.calls in
              record {
                made = made;
                stands = record { plan = step.next.plan ∙ m.stands.plan; next = step.next.next ∙ m.stands.next; left = ap (λ (left : ℕ). left + made) again ∙ m.stands.left; tried_is = step.next.tried };
                ends = λ done. going (sym step.next.next ∙ done);
                asks = granted;
                calls = (kind, comes.here, calls);
                memory = same ∙ m.same;
                tries = tries_more false step;
              }

          -- it was made
          pub one_more_made : TriesStep true page at now later new → HasMade (suc made) later_giver later new
          one_more_made step =
              let less : steps_left (plan_of at).lines (step_after (plan_of at).lines (next_of at)) + 1 ≡ steps_to_come at = steps_left-after (plan_of at).lines (next_of at) (plan_of at).capacity at.place some in
              let after : steps_to_come later ≡ steps_left (plan_of at).lines (step_after (plan_of at).lines (next_of at)) = ap (λ (p : Plan). steps_left p.lines (next_of later)) step.next.plan ∙ ap (steps_left (plan_of at).lines) step.next.next in
              let next : next_of later ≡ step_on run (suc made) = step.next.next ∙ ap (λ (p : Plan). step_after p.lines (next_of at)) m.stands.plan ∙ ap (step_after (plan_of run).lines) m.stands.next in
              let coming : calls_to_come later ≡ behind = ap (λ (p : Plan). calls_left p.closed p.lines (next_of later)) step.next.plan ∙ ap (calls_left (plan_of at).closed (plan_of at).lines) step.next.next in
              record {
                stands = record { plan = step.next.plan ∙ m.stands.plan; next = next; left = omega (arith, less, after, m.stands.left); tried_is = step.next.tried };
                granted = granted;
                coming = comes.rest ∙ sym coming;
                calls = calls_more (calls_to_come run) behind made kind old.calls now.calls new.calls comes m.calls (counted true step);
                same = same ∙ m.same;
                tries = tries_more true step;
              }
