use Rattle.std.proofs.Common.{◌-◌, ◌<◌, ◌^◌, arith, true}
use Rattle.std.specs.Prelude.{nat_lt}
use Rattle.save_device.specs.Calls.{called}
use Rattle.save_device.specs.declared.calls.Call.{Call}
use Rattle.module_saves.proofs.Common.{[], ℕ, ◌++◌, ◌∙◌, ◌∷◌, ◌≡◌, CallKind, List, MakesCalls, ap, append-nil, false, refl, rules, sym}
use Rattle.module_saves.proofs.SteppedSaves.{ends, fails_in, goes_on, kind_is}
use Rattle.module_saves.proofs.saves.Saves.step.Goals as goal

-- one call that failed
failed_call : (kind of : CallKind) (calls after : List Call) → kind ≡ of → after ≡ calls ++ called kind false ∷ [] → MakesCalls (of ∷ []) false calls after
failed_call kind of calls after same is = record {
  done = [];
  fails = of;
  rest = [];
  in_order = refl;
  made = is ∙ ap (λ (k : CallKind). calls ++ called k false ∷ []) same ∙ ap (λ (l : List Call). l ++ called of false ∷ []) (sym (append-nil calls));
}

-- a count below another one isn't the largest
fewer_still : (told repeats failures : ℕ) → told ≡ failures → repeats < 2 ^ 64 → nat_lt told repeats ≡ true → failures < 2 ^ 64 - 1
fewer_still told repeats failures is fits less = let below : told < repeats = grind arith in omega (arith, below, is, fits)

pub returns-in_default-step-clause-call : goal.returns-in_default-step-clause-call
returns-in_default-step-clause-call g c = search (rules, failed_call, kind_is)

pub returns-in_default-step-clause-makes : goal.returns-in_default-step-clause-makes
returns-in_default-step-clause-makes g c = λ lines s save ready.
    let told = c.in_default-step.ensures in
    fails_in lines s save c.args.self.now c.args.page.now _ ready c.in-Some.run' (sym c.in-Some.ensures.value) c.step.new.self _ _ c.fail.new.self refl refl c.take.ensures.after c.fail.result _ c.fail.ensures.fails
    (λ is. fewer_still c.failures.result c.args.repeats _ c.failures.ensures (omega (arith, c.ranges.repeats.fits)) is)
    (record { call = told.call; outside = told.outside; next = told.next; has = told.has; saving = told.saving; any_moment = told.any_moment })

pub returns-then-is_some-clause-makes : goal.returns-then-is_some-clause-makes
returns-then-is_some-clause-makes g c = λ lines s save ready.
    let told = c.in-Ok.ensures in
    ends lines s save c.args.self.now c.args.page.now _ ready c.in-Some.run' (sym c.in-Some.ensures.value) c.step.new.self _ _ _ refl refl c.take.ensures.after c.learn.ensures
    (record { call = told.call; outside = told.outside; next = told.next; has = told.has; saving = told.saving; any_moment = told.any_moment }) (search rules)

pub returns-clause-makes : goal.returns-clause-makes
returns-clause-makes g c = λ lines s save ready.
    let told = c.in-Ok.ensures in
    goes_on lines s save c.args.self.now c.args.page.now _ ready c.in-Some.run' (sym c.in-Some.ensures.value) c.step.new.self _ _ _ refl refl c.take.ensures.after c.learn.ensures
    (record { call = told.call; outside = told.outside; next = told.next; has = told.has; saving = told.saving; any_moment = told.any_moment }) (search rules) _ refl refl refl refl
