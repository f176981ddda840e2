use Rattle.std.specs.Prelude.{◌^◌, nat_lt}
use Rattle.arm_state.specs.Modes.{is_armed, is_backed, repeats_in}
use Rattle.arm_state.specs.Moves.{mode_after}
use Rattle.arm_state.specs.declared.moves.Move.TheVariants.{FailSave}
use Rattle.module_core.specs.Fronts.{setup_in}
use Rattle.module_saves.specs.Saves.{StepTold}
use Rattle.module_saves.specs.Saving.{IsDone, IsFaultOf, store_after}
use Rattle.module_saves.specs.declared.saves.StepFault.{StepFault}
use Rattle.nv_machine.specs.Moves.{advanced, finished, may_repeat, repeated, torn}
use Rattle.slot_store.specs.Runs.{failures_of}
use Rattle.module_core.proofs.Common.{Bool, DeviceState, Err, Mode, Newest, None, Ok, Option, ReachesStore, RunningSave, AreSameSave, SaveRun, Setup, Some, Step, Store, SyncOpen, after_step, ap, arith, false, next_of, refl, rules, saved_in, step_failed, stepped, subst, sym, true, ℕ, ◌∙◌, ◌≡◌}
use Rattle.module_saves.proofs.RunningSaves.{counts_as, failed_none, holds_runs, stepped_is, the_run}
use Rattle.module_core.proofs.front.Front.make_step.Goals as goal

-- the same test, of the front's numbers and of the machine's
may_as : (setup : Setup) (mode : Mode) (save : RunningSave) (run : SaveRun) (repeats : ℕ) (may : Bool) → failures_of run ≡ save.repeats → repeats ≡ repeats_in mode setup.shape.costs.retries → nat_lt (failures_of run) repeats ≡ may
    → may_repeat setup mode save ≡ may
may_as setup mode save run repeats may failures most is = ap (λ (k : ℕ). nat_lt k (repeats_in mode setup.shape.costs.retries)) (sym failures) ∙ ap (nat_lt (failures_of run)) (sym most) ∙ is

pub returns-in-Err-Again-clause-made : goal.returns-in-Err-Again-clause-made
returns-in-Err-Again-clause-made g c = λ shape most m save ready h.
    let S = g.D.SaveDevice in let lines : ℕ = shape.lines in let now : DeviceState = S.state c.step.new.device in let repeats : ℕ = c.args.repeats in let old = c.args.self.now in
    let later : Store = repeated save (torn m.store save.made save.next) in
    let made : ReachesStore lines m.store later (S.state c.args.device.now) c.step.new.self now =
    subst (λ (x : StepFault). ReachesStore lines m.store (store_after {T = Option Step} lines m.store save (Err x)) (S.state c.args.device.now) c.step.new.self now) c.in-Err-Again.field-0-is (c.in-Err-Again.ensures.makes lines m.store save ready) in
    let the = the_run lines m.store (S.state c.args.device.now) save m.store.saving old.saves.saving ready.runs ready.holds in
    let told : IsFaultOf (nat_lt (failures_of the.0) repeats) c.in-Err-Again.field-0 = c.in-Err-Again.ensures.fault the.0 the.1 in
    let may : may_repeat (setup_in shape old) m.mode save ≡ true =
    may_as (setup_in shape old) m.mode save the.0 repeats true the.2.again (most ∙ ap (λ (mode : Mode). repeats_in mode shape.costs.retries) h.mode)
    (subst (IsFaultOf (nat_lt (failures_of the.0) repeats)) c.in-Err-Again.field-0-is told) in
    let saving : AreSameSave later.saving c.step.new.self.saving = holds_runs lines later now later.saving c.step.new.self.saving made.holds in record {
      later = record m { store = later };
      step = (may, refl);
      matches = search rules;
      reaches = made;
    }

pub returns-in-Err-Ended-clause-made : goal.returns-in-Err-Ended-clause-made
returns-in-Err-Ended-clause-made g c = λ shape most m save ready h.
    let S = g.D.SaveDevice in let lines : ℕ = shape.lines in let now : DeviceState = S.state c.step.new.device in let repeats : ℕ = c.args.repeats in let old = c.args.self.now in
    let failed : Store = step_failed m.store save.made save.next in
    let made : ReachesStore lines m.store failed (S.state c.args.device.now) c.step.new.self now =
    subst (λ (x : StepFault). ReachesStore lines m.store (store_after {T = Option Step} lines m.store save (Err x)) (S.state c.args.device.now) c.step.new.self now) c.in-Err-Ended.field-0-is (c.in-Err-Ended.ensures.makes lines m.store save ready) in
    let the = the_run lines m.store (S.state c.args.device.now) save m.store.saving old.saves.saving ready.runs ready.holds in
    let told : IsFaultOf (nat_lt (failures_of the.0) repeats) c.in-Err-Ended.field-0 = c.in-Err-Ended.ensures.fault the.0 the.1 in
    let may : may_repeat (setup_in shape old) m.mode save ≡ false =
    may_as (setup_in shape old) m.mode save the.0 repeats false the.2.again (most ∙ ap (λ (mode : Mode). repeats_in mode shape.costs.retries) h.mode)
    (subst (IsFaultOf (nat_lt (failures_of the.0) repeats)) c.in-Err-Ended.field-0-is told) in
    let none : failed.saving ≡ None = failed_none m.store save.made save.next in
    let saving : AreSameSave failed.saving c.step.new.self.saving = holds_runs lines failed now failed.saving c.step.new.self.saving made.holds in record {
      later = record m { mode = mode_after FailSave m.mode; store = failed };
      step = (may, refl);
      matches = search rules;
      reaches = made;
    }

pub returns-in-Ok-None-clause-made : goal.returns-in-Ok-None-clause-made
returns-in-Ok-None-clause-made g c = λ shape most m save ready h.
    let S = g.D.SaveDevice in let lines : ℕ = shape.lines in let before : DeviceState = S.state c.args.device.now in let now : DeviceState = S.state c.step.new.device in let old = c.args.self.now in
    let the = the_run lines m.store before save m.store.saving old.saves.saving ready.runs ready.holds in let run : SaveRun = the.0 in
    let told : IsDone (next_of run) None = subst (λ (x : Option Step). IsDone (next_of run) x) c.in-Ok-None.field-0-is (c.in-Ok-None.ensures.step run the.1) in
    let last : save.next ≡ SyncOpen = sym the.2.next ∙ told in
    let ended : Store = saved_in m.store save.made in let is : after_step lines m.store save save.next ≡ ended = ap (after_step lines m.store save) last in
    let made : ReachesStore lines m.store ended before c.step.new.self now = subst (λ (s : Store). ReachesStore lines m.store s before c.step.new.self now) is (c.in-Ok-None.ensures.makes lines m.store save ready) in
    let count : c.in-Some.count ≡ save.made.count = counts_as c.in-Some.count old.saves.saving run the.1 (sym c.count.ensures ∙ c.in-Some.is) ∙ the.2.plan.count in
    let saving : AreSameSave ended.saving c.step.new.self.saving = holds_runs lines ended now ended.saving c.step.new.self.saving made.holds in record {
      later = finished save m;
      step = (last, made.knows.generation, count, refl);
      matches = search rules;
      reaches = made;
    }

pub returns-in-Ok-Some-clause-made : goal.returns-in-Ok-Some-clause-made
returns-in-Ok-Some-clause-made g c = λ shape most m save ready h.
    let S = g.D.SaveDevice in let lines : ℕ = shape.lines in let before : DeviceState = S.state c.args.device.now in let now : DeviceState = S.state c.step.new.device in let old = c.args.self.now in
    let the = the_run lines m.store before save m.store.saving old.saves.saving ready.runs ready.holds in let run : SaveRun = the.0 in
    let told : IsDone (next_of run) (Some c.in-Ok-Some.step) = subst (λ (x : Option Step). IsDone (next_of run) x) c.in-Ok-Some.field-0-is (c.in-Ok-Some.ensures.step run the.1) in
    let made_is : c.in-Ok-Some.step ≡ save.next = told.0 ∙ the.2.next in
    let later : Store = advanced lines save (stepped m.store save.made c.in-Ok-Some.step) in
    let is : after_step lines m.store save save.next ≡ later =
    stepped_is lines m.store save save.next (λ last. told.1 (made_is ∙ last)) ∙ ap (λ (x : Step). advanced lines save (stepped m.store save.made x)) (sym made_is) in
    let made : ReachesStore lines m.store later before c.step.new.self now = subst (λ (s : Store). ReachesStore lines m.store s before c.step.new.self now) is (c.in-Ok-Some.ensures.makes lines m.store save ready) in
    let saving : AreSameSave later.saving c.step.new.self.saving = holds_runs lines later now later.saving c.step.new.self.saving made.holds in record {
      later = record m { store = later };
      step = (made_is, told.1, refl);
      matches = search rules;
      reaches = made;
    }

-- a failure of the device arms no front and backs none, and none has ended but for one that had
armed_before : (mode : Mode) → is_armed (mode_after FailSave mode) ≡ true → is_armed mode ≡ true
armed_before mode is = search rules

backed_before : (mode : Mode) → is_backed (mode_after FailSave mode) ≡ true → is_backed mode ≡ true
backed_before mode is = search rules

pub invariant_of-self : goal.invariant_of-self
invariant_of-self g c =
    let old = c.args.self.now in
    record {
      from = old.from;
      stored = old.stored;
      settled = old.settled;
      making = c.in-Err-Again.ensures.between old.saved old.accepted old.making;
      kept = old.kept;
      numbers = old.numbers;
      unspent = λ backed. let e : c.step.new.self.newest.generation ≡ old.saves.newest.generation = ap (λ (x : Newest). x.generation) c.in-Err-Again.ensures.told in omega (arith, e, old.unspent backed);
      most = λ armed. c.in-Err-Again.ensures.most (2 ^ 62) (old.most armed);
    }

pub invariant_of-self-in-Err-Ended : goal.invariant_of-self-in-Err-Ended
invariant_of-self-in-Err-Ended g c =
    let old = c.args.self.now in
    record {
      from = old.from;
      stored = old.stored;
      settled = old.settled;
      making = c.in-Err-Ended.ensures.between old.saved old.accepted old.making;
      kept = old.kept;
      numbers = old.numbers;
      unspent = λ backed.
          let e : c.step.new.self.newest.generation ≡ old.saves.newest.generation = ap (λ (x : Newest). x.generation) c.in-Err-Ended.ensures.told in
          omega (arith, e, old.unspent (backed_before old.mode (sym (ap is_backed c.after-self.ensures) ∙ backed)));
      most = λ armed. c.in-Err-Ended.ensures.most (2 ^ 62) (old.most (armed_before old.mode (sym (ap is_armed c.after-self.ensures) ∙ armed)));
    }

pub invariant_of-self-in-Some-this : goal.invariant_of-self-in-Some-this
invariant_of-self-in-Some-this g c =
    let old = c.args.self.now in
    let same : c.step.new.self.newest ≡ old.saves.newest = subst (λ (x : Option Step). StepTold (Ok x) old.saves c.step.new.self) c.in-Ok-Some.field-0-is c.in-Ok-Some.ensures.told in
    record {
      from = old.from;
      stored = old.stored;
      settled = old.settled;
      making = c.in-Ok-Some.ensures.between old.saved old.accepted old.making;
      kept = old.kept;
      numbers = old.numbers;
      unspent = λ backed. let e : c.step.new.self.newest.generation ≡ old.saves.newest.generation = ap (λ (x : Newest). x.generation) same in omega (arith, e, old.unspent backed);
      most = λ armed. c.in-Ok-Some.ensures.most (2 ^ 62) (old.most armed);
    }
