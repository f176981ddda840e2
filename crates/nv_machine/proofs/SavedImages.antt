-- A save that nothing disturbs leaves the old image or the new one.
use Rattle.save_device.proofs.Moments.{weaker}
use Rattle.save_device.specs.Device.{LeavesOnly, StopsWithin, present}
use Rattle.slot_store.proofs.Resting.{found_only}
use Rattle.slot_store.specs.Outcomes.{restored}
use Rattle.slot_store.specs.Rest.{Candidates, IsAmong, IsSaved, only, rearmed}
use Rattle.slot_store.specs.Slots.{other}
use Rattle.nv_machine.specs.Headline.{HappensNext, MayFindMeanwhile, paused}
use Rattle.nv_machine.specs.SavedImages.{DisturbNoSave, DisturbsNoSave, IsOldOr, IsOldOrNew, IsSavingOver, IsUnsaving}
use Rattle.nv_machine.specs.declared.events.StepReply.{StepReply}
use Rattle.nv_machine.proofs.Common.{Bool, List, [], ap, arith, disarming, false, if◌then◌else◌, inl, inr, refl, subst, sym, ⊎_elim, ◌∙◌, ◌∷◌, ◌≡◌, Err, Found, Gauge, GaugeCall, Mode, ReadsLevel, ForSome, Image, IsGuarded, MachineStep, None, Ok, Option, Outcome, Run, RunningSave, Setup, Slot, Some, Step, Store, World, is_armed, is_low, read_as, reads_gauge, true, ℕ, made_of, marks, newest_of, Machine, Event, Reply}
use Rattle.std.specs.Prelude.{◌⊎◌, MatchBool}
use Rattle.arm_state.specs.declared.refusal.ArmRefusal.{ArmRefusal}
use Rattle.arm_state.specs.declared.refusal.ArmReply.{ArmReply}
use Rattle.arm_state.specs.declared.refusal.DisarmReply.{DisarmReply}
use Rattle.nv_machine.specs.Machine.{SenseStep}
use Rattle.nv_machine.specs.Moves.{sensed}
use Rattle.nv_machine.proofs.Guarded.{newest_alone}
use Rattle.nv_machine.proofs.Proceeding.{Proceeds, stepped_goes, torn_goes}
use Rattle.energy_budget.specs.Charging.{RisesTo}
use Rattle.nv_machine.proofs.StoppedLives.{StopsRecover, left_along}

-- a reading that leaves the mode leaves the store
unturned : (setup : Setup) (level : ℕ) (old : Machine) (before : Gauge) (new : Machine) (after : Gauge) → SenseStep setup level old before new after → new.mode ≡ old.mode → new.store ≡ old.store
unturned setup level old before new after done same = by_mode (reads_gauge old.mode) refl done
  where
    read : (b : Bool) → is_low setup (read_as level old) ≡ b → new ≡ (if b then disarming (read_as level old) else read_as level old) → new.store ≡ old.store
    read true low is =
        let off : old.mode ≡ Mode.Disarming = sym same ∙ ap (λ (m : Machine). m.mode) is in
        let on : is_armed old.mode ≡ true = grind arith in
        absurd (let bad : ⊥ = cc (off, on) in bad)
    read false high is = ap (λ (m : Machine). m.store) is

    by_mode : (b : Bool) → reads_gauge old.mode ≡ b → MatchBool b (ReadsLevel GaugeCall.Sense before level after × (new ≡ sensed setup (read_as level old))) ((level ≡ old.reading) × (new ≡ old) × (after ≡ before)) → new.store ≡ old.store
    by_mode true asks done = read (is_low setup (read_as level old)) refl done.1
    by_mode false asks done = ap (λ (m : Machine). m.store) done.1

module _ (slot : Slot) (newest made : Image) where
  -- The save runs: the old image stands, and in the other slot none, or the new one.
  record Runs (s : Store) : Type 0 where
    saved : Option Image
    is : s.maybe ≡ record (only slot newest) { saved = saved }
    may : ForSome saved (λ image. image ≡ made)
    save : RunningSave
    runs : s.saving ≡ Some save
    makes : save.made ≡ made

  -- it has ended well
  record Ended (s : Store) : Type 0 where
    is : s.maybe ≡ only (other slot) made
    idle : s.saving ≡ None

  abbrev Stage : Store → Type 0
  Stage s = Runs s ⊎ Ended s

  abbrev Finds : Outcome → Type 0
  Finds outcome = (outcome ≡ Found slot newest) ⊎ (outcome ≡ Found (other slot) made)

  finds_saved : (saved : Option Image) → ForSome saved (λ image. image ≡ made) → (outcome : Outcome) → IsSaved saved (other slot) outcome → Finds outcome
  finds_saved (Some image) may outcome is = inr (is ∙ ap (Found (other slot)) (may image refl))
  finds_saved None may outcome none = absurd none

  finds_running : (saved : Option Image) → ForSome saved (λ image. image ≡ made) → (outcome : Outcome) → IsAmong (record (only slot newest) { saved = saved }) outcome → Finds outcome
  finds_running saved may outcome (inl is) = inl (is.found ∙ ap (λ arm. Found slot (rearmed newest arm)) (is.own refl))
  finds_running saved may outcome (inr is) = finds_saved saved may outcome is

  -- a restore finds the old image or the new one
  finds : (s : Store) → Stage s → (outcome : Outcome) → IsAmong s.maybe outcome → Finds outcome
  finds s (inl r) outcome among = finds_running r.saved r.may outcome (subst (λ (c : Candidates). IsAmong c outcome) r.is among)
  finds s (inr e) outcome among = inr (found_only (other slot) made outcome (subst (λ (c : Candidates). IsAmong c outcome) e.is among))

  same_store : (m n : Machine) → n.store ≡ m.store → Stage m.store → Stage n.store
  same_store m n same stage = subst Stage (sym same) stage

  -- a step of the save
  did : (old on new : Store) (save later : RunningSave) → Proceeds save.made old on → later.made ≡ save.made → old.saving ≡ Some save
      → new ≡ record on { saving = Some later } → Stage old → Stage new
  did old on new save later goes same runs is (inl r) =
      let one : Some r.save ≡ Some save = sym r.runs ∙ runs in let makes : save.made ≡ made = cc (one, r.makes) in
      inl (record {
        saved = goes.saved;
        is = ap (λ (s : Store). s.maybe) is ∙ ap (λ (s : Store). s.maybe) goes.is ∙ ap (λ (c : Candidates). record c { saved = goes.saved }) r.is;
        may = goes.may (λ image. image ≡ made) (subst (λ (c : Candidates). ForSome c.saved (λ image. image ≡ made)) (sym r.is) r.may) makes;
        save = later;
        runs = ap (λ (s : Store). s.saving) is;
        makes = same ∙ makes;
      })
  did old on new save later goes same runs is (inr e) = absurd (let bad : ⊥ = cc (e.idle, runs) in bad)

  -- and its last one
  ended : (old new : Store) (save : RunningSave) → old.saving ≡ Some save → new.maybe ≡ only (other old.maybe.slot) save.made → new.saving ≡ None → Stage old → Stage new
  ended old new save runs is idle (inl r) =
      let one : Some r.save ≡ Some save = sym r.runs ∙ runs in let makes : save.made ≡ made = cc (one, r.makes) in let there : old.maybe.slot ≡ slot = ap (λ (c : Candidates). c.slot) r.is in
      inr (record { is = is ∙ ap (λ (i : Image). only (other old.maybe.slot) i) makes ∙ ap (λ (s : Slot). only (other s) made) there; idle = idle })
  ended old new save runs is idle (inr e) = absurd (let bad : ⊥ = cc (e.idle, runs) in bad)

  goes_on : (setup : Setup) (event : Event) (reply : Reply) (old new : World) → MachineStep setup event reply old new → DisturbsNoSave event reply old.machine.mode new.machine.mode → Stage old.machine.store → Stage new.machine.store
  goes_on setup (Event.Write write) (Reply.Write (Ok accepted)) old new done calm stage = same_store old.machine new.machine (ap (λ (m : Machine). m.store) done.1.1.is) stage
  goes_on setup (Event.Write write) (Reply.Write (Err refusal)) old new done calm stage = same_store old.machine new.machine (ap (λ (m : Machine). m.store) done.1.1) stage
  goes_on setup (Event.Read line) (Reply.Read (Ok got)) old new done calm stage = same_store old.machine new.machine (ap (λ (m : Machine). m.store) done.1.2) stage
  goes_on setup (Event.Read line) (Reply.Read (Err refusal)) old new done calm stage = same_store old.machine new.machine (ap (λ (m : Machine). m.store) done.1.1) stage
  goes_on setup (Event.Collect ticket) (Reply.Collect collected) old new done calm stage = same_store old.machine new.machine (ap (λ (m : Machine). m.store) done.1.1) stage
  goes_on setup (Event.Work channel) (Reply.Work None) old new done calm stage = same_store old.machine new.machine (ap (λ (m : Machine). m.store) done.1) stage
  goes_on setup (Event.Work channel) (Reply.Work (Some work)) old new done calm stage = same_store old.machine new.machine (ap (λ (m : Machine). m.store) done.1.2) stage
  goes_on setup Event.SaveStep (Reply.SaveStep StepReply.NoSave) old new done calm stage = same_store old.machine new.machine (ap (λ (w : World). w.machine.store) done.1) stage
  goes_on setup Event.SaveStep (Reply.SaveStep StepReply.Waiting) old new done calm stage = same_store old.machine new.machine (ap (λ (w : World). w.machine.store) done.3) stage
  goes_on setup Event.SaveStep (Reply.SaveStep (StepReply.Did step)) old new done calm stage =
      did old.machine.store _ new.machine.store done.0 _ (stepped_goes done.0.made old.machine.store step) refl done.1.runs (ap (λ (m : Machine). m.store) done.6.2) stage
  goes_on setup Event.SaveStep (Reply.SaveStep StepReply.Retry) old new done calm stage =
      did old.machine.store _ new.machine.store done.0 _ (torn_goes done.0.made old.machine.store done.0.next) refl done.1.runs (ap (λ (m : Machine). m.store) done.6.1) stage
  goes_on setup Event.SaveStep (Reply.SaveStep (StepReply.Saved generation count)) old new done calm stage =
      ended old.machine.store new.machine.store done.0 done.1.runs (ap (λ (m : Machine). m.store.maybe) done.6.3) (ap (λ (m : Machine). m.store.saving) done.6.3) stage
  goes_on setup Event.SaveStep (Reply.SaveStep StepReply.Turned) old new done none stage = absurd none
  goes_on setup Event.SaveStep (Reply.SaveStep StepReply.Fault) old new done none stage = absurd none
  goes_on setup Event.Sense (Reply.Sense level) old new done calm stage = same_store old.machine new.machine (unturned setup level old.machine old.gauge new.machine new.gauge done.1 calm) stage
  goes_on setup Event.Arm (Reply.Arm (Ok ArmReply.AlreadyArmed)) old new done calm stage = same_store old.machine new.machine (ap (λ (w : World). w.machine.store) done.1) stage
  goes_on setup Event.Arm (Reply.Arm (Ok ArmReply.Armed)) old new done none stage = absurd none
  goes_on setup Event.Arm (Reply.Arm (Err ArmRefusal.Device)) old new done none stage = absurd none
  goes_on setup Event.Arm (Reply.Arm (Err (ArmRefusal.NeedEnergy need has))) old new done calm stage = same_store old.machine new.machine (ap (λ (w : World). w.machine.store) done.is) stage
  goes_on setup Event.Arm (Reply.Arm (Err refusal)) old new done calm stage = same_store old.machine new.machine (ap (λ (w : World). w.machine.store) done.2) stage
  goes_on setup Event.Disarm (Reply.Disarm (Ok DisarmReply.AlreadyDisarmed)) old new done calm stage = same_store old.machine new.machine (ap (λ (m : Machine). m.store) done.1.1) stage
  goes_on setup Event.Disarm (Reply.Disarm (Ok DisarmReply.Disarming)) old new done none stage = absurd none
  goes_on setup Event.Disarm (Reply.Disarm (Err refusal)) old new done calm stage = same_store old.machine new.machine (ap (λ (m : Machine). m.store) done.1.1) stage
  goes_on setup Event.SaveBegin (Reply.SaveBegin (Ok begins)) old new done none stage = absurd none
  goes_on setup Event.SaveBegin (Reply.SaveBegin (Err refusal)) old new done calm stage = same_store old.machine new.machine (ap (λ (m : Machine). m.store) done.1.1) stage
  goes_on setup Event.Lose reply old new done none stage = absurd none
  goes_on setup event reply old new none calm stage = absurd none

  goes_along : (setup : Setup) (events : List Event) (replies : List Reply) (old new : World) (run : Run setup events replies old new) → DisturbNoSave setup events replies old new run → Stage old.machine.store → Stage new.machine.store
  goes_along setup [] [] old new run calm stage = same_store old.machine new.machine (ap (λ (w : World). w.machine.store) run.is) stage
  goes_along setup (event ∷ events) (reply ∷ replies) old new run calm stage =
      goes_along setup events replies run.0 new run.2 calm.1 (goes_on setup event reply (paused run.1.pause old) run.0 run.1.happens.step calm.0 stage)
  goes_along setup _ _ old new none calm stage = absurd none

-- no arm byte is written in such an event
unmarked : (setup : Setup) (event : Event) (reply : Reply) (old new : World) → MachineStep setup event reply old new → DisturbsNoSave event reply old.machine.mode new.machine.mode → marks reply ≡ false
unmarked setup (Event.Write write) (Reply.Write result) old new done calm = refl
unmarked setup (Event.Read line) (Reply.Read result) old new done calm = refl
unmarked setup (Event.Collect ticket) (Reply.Collect collected) old new done calm = refl
unmarked setup (Event.Work channel) (Reply.Work result) old new done calm = refl
unmarked setup Event.SaveStep (Reply.SaveStep reply) old new done calm = refl
unmarked setup Event.Sense (Reply.Sense level) old new done calm = refl
unmarked setup Event.Arm (Reply.Arm (Ok ArmReply.AlreadyArmed)) old new done calm = refl
unmarked setup Event.Arm (Reply.Arm (Ok ArmReply.Armed)) old new done none = absurd none
unmarked setup Event.Arm (Reply.Arm (Err ArmRefusal.Device)) old new done none = absurd none
unmarked setup Event.Arm (Reply.Arm (Err refusal)) old new done calm = refl
unmarked setup Event.Disarm (Reply.Disarm result) old new done calm = refl
unmarked setup Event.SaveBegin (Reply.SaveBegin result) old new done calm = refl
unmarked setup Event.Lose reply old new done none = absurd none
unmarked setup event reply old new none calm = absurd none

-- a save begins
begins : (m n : Machine) → IsGuarded m → IsUnsaving m → n.store ≡ record m.store { saving = Some (record { made = made_of (is_armed m.mode) m; next = Step.Close; repeats = 0 }) }
    → Stage m.store.maybe.slot (newest_of m) (made_of (is_armed m.mode) m) n.store
begins m n guarded clean is =
    inl (record {
      saved = None;
      is = ap (λ (s : Store). s.maybe) is ∙ newest_alone m guarded clean;
      may = λ image none. let bad : ⊥ = cc in absurd bad;
      save = record { made = made_of (is_armed m.mode) m; next = Step.Close; repeats = 0 };
      runs = ap (λ (s : Store). s.saving) is;
      makes = refl;
    })

module _ (setup : Setup) (events : List Event) (replies : List Reply) (old new : World) (guarded : IsGuarded old.machine) (clean : IsUnsaving old.machine)
    (run : Run setup (Event.SaveBegin ∷ events) (Reply.SaveBegin (Ok tt) ∷ replies) old new) (calm : DisturbNoSave setup events replies run.0 new run.2) where
  stage : Stage old.machine.store.maybe.slot (newest_of old.machine) (made_of (is_armed old.machine.mode) old.machine) new.machine.store
  stage =
      let begun = begins old.machine run.0.machine guarded clean (ap (λ (m : Machine). m.store) run.1.happens.step.1.1) in
      goes_along old.machine.store.maybe.slot (newest_of old.machine) (made_of (is_armed old.machine.mode) old.machine) setup events replies run.0 new run.2 calm begun

  pub left_between : StopsWithin (λ bytes. IsOldOrNew old.machine (restored setup.shape.lines bytes)) (present new.device)
  left_between bytes left =
      let recovers : StopsRecover setup new = left_along RisesTo setup events replies run.0 new run.2 run.1.happens.at_end in
      finds old.machine.store.maybe.slot (newest_of old.machine) (made_of (is_armed old.machine.mode) old.machine) new.machine.store stage (restored setup.shape.lines bytes) (recovers bytes left).among

  pub left_within_next : (last : World) (event : Event) (reply : Reply) → HappensNext setup event reply new last → DisturbsNoSave event reply new.machine.mode last.machine.mode
      → LeavesOnly new.device last.device (λ bytes. IsOldOrNew old.machine (restored setup.shape.lines bytes))
  left_within_next last event reply next quiet =
      let slot = old.machine.store.maybe.slot in let newest = newest_of old.machine in let made = made_of (is_armed old.machine.mode) old.machine in
      let later : Stage slot newest made last.machine.store = goes_on slot newest made setup event reply (paused next.pause new) last next.happens.step quiet stage in
      weaker new.device last.device
      (λ bytes recovers.
      let outcome = restored setup.shape.lines bytes in
      let either : MayFindMeanwhile reply new.machine.store.maybe last.machine.store.maybe outcome = recovers.among in
      ⊎_elim (finds slot newest made new.machine.store stage outcome) (finds slot newest made last.machine.store later outcome) (rw (unmarked setup event reply (paused next.pause new) last next.happens.step quiet) at either))
      next.happens.meanwhile

-- a save that runs in place of another one
pub left_instead : (setup : Setup) (first : Event) (told : Reply) (events : List Event) (replies : List Reply) (before old new : World) (save : RunningSave) → HappensNext setup first told before old
    → IsSavingOver save old.machine → (run : Run setup events replies old new) → DisturbNoSave setup events replies old new run
    → StopsWithin (λ bytes. IsOldOr save.made old.machine (restored setup.shape.lines bytes)) (present new.device)
left_instead setup first told events replies before old new save next over run calm bytes left =
    let slot = old.machine.store.maybe.slot in let newest = newest_of old.machine in
    let here : Stage slot newest save.made old.machine.store =
    inl (record { saved = None; is = over.alone; may = λ image none. let bad : ⊥ = cc in absurd bad; save = save; runs = over.runs; makes = refl }) in
    let recovers : StopsRecover setup new = left_along RisesTo setup events replies old new run next.happens.at_end in
    finds slot newest save.made new.machine.store (goes_along slot newest save.made setup events replies old new run calm here) (restored setup.shape.lines bytes) (recovers bytes left).among
