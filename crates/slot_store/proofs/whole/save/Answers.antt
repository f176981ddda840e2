use Rattle.std.proofs.lemmas.List.Elements.{All-from_get_or}
use Rattle.save_device.proofs.Moments.{weaker}
use Rattle.slot_store.specs.Finishing.{CallsFor, step_on}
use Rattle.slot_store.specs.Runs.{Saving}
use Rattle.slot_store.specs.Whole.{IsReady, made_over}
use Rattle.slot_store.specs.declared.source.BrokenOff.TheVariants as broken
use Rattle.slot_store.specs.declared.source.BrokenOff.{BrokenOff}
use Rattle.slot_store.proofs.Common.{[], ℕ, ◌<◌, ◌≡◌, ◌∙◌, Candidates, DeviceState, Err, Image, IsMemory, List, MakesCalls, SavingAt, Step, calls_left, false, get_or, length, only, refl, subst, sym}
use Rattle.slot_store.proofs.GivenUp.{given_up, save_done}
use Rattle.slot_store.proofs.Resting.{newest_among}
use Rattle.slot_store.proofs.StepsMade.{calls_failed, only_faults}
use Rattle.slot_store.proofs.WholeSaves.{IsPlanOver, old_or_new, saved_over, still_over, stops_over}
use Rattle.slot_store.proofs.whole.save.Goals as goal

is_memory : (memory : List (List ℕ)) → ((i : ℕ) → i < length memory → length (get_or memory i []) ≡ 64) → IsMemory (length memory) memory
is_memory memory told = record { size = refl; whole = All-from_get_or (λ line. length line ≡ 64) memory [] told }

pub returns-in_default : goal.returns-in_default
returns-in_default g c =
    let a = c.args in let memory = a.memory.now in let begun = c.begin-run.ensures in let run = c.begin-run.result in let told = c.in_default.ensures in let at = c.finish.new.self in
    let old : DeviceState = g.D.SaveDevice.state a.device.now in let new : DeviceState = g.D.SaveDevice.state c.finish.new.device in
    let plan : IsPlanOver a.newest a.closed a.count a.armed (length memory) run.plan = record { slot = begun.slot; generation = begun.generation; count_is = begun.count; arm = begun.armed; shut = begun.closed; lines_are = begun.lines } in
    let runs : (candidates : Candidates) (image : Image) → IsReady candidates image a.newest a.closed memory old → Saving candidates image memory run old =
    λ candidates image ready. begun.begun candidates image memory old ready.rest ready.generation (is_memory memory c.told-memory) in
    let why : c.in_default.field-0 ≡ broken.Fault = only_faults (step_on run) c.in_default.field-0 _ _ _ told.asks in
    let calls : MakesCalls (calls_left run.plan.closed run.plan.lines run.next) false old.calls new.calls =
    calls_failed (calls_left run.plan.closed run.plan.lines run.next) told.made old.calls new.calls (subst (λ (w : BrokenOff). CallsFor (calls_left run.plan.closed run.plan.lines run.next) (Err w) told.made old.calls new.calls) why told.calls) in
    record {
      old_or_new = λ image ready.
          weaker old new (old_or_new a.newest.slot image (made_over a.newest a.count a.armed memory))
          (stops_over a.newest a.closed a.count a.armed memory run.plan plan (only a.newest.slot image) image run old new _ refl ready (told.tries.any_moment (only a.newest.slot image) image (runs (only a.newest.slot image) image ready)));
      any_moment = λ candidates image ready.
          stops_over a.newest a.closed a.count a.armed memory run.plan plan candidates image run old new _ refl ready (told.tries.any_moment candidates image (runs candidates image ready));
      saved = tt;
      failed = λ candidates image ready.
          still_over a.newest a.closed a.count a.armed memory at.plan (subst (IsPlanOver a.newest a.closed a.count a.armed (length memory)) (sym told.stands.plan) plan) candidates image at.next at.tried c.is_closed.result new c.is_closed.ensures
          (newest_among candidates image a.newest.slot (length memory) a.closed old ready.rest)
          (given_up candidates image at.plan memory at.next at.tried new told.ends (told.tries.saving candidates image (runs candidates image ready)).0);
      slot = tt;
      generation = tt;
      calls = rw (begun.closed, begun.lines, begun.next) at calls;
      size = told.tries.outside.size ∙ c.requires.size;
    }

pub returns : goal.returns
returns g c =
    let a = c.args in let memory = a.memory.now in let begun = c.begin-run.ensures in let run = c.begin-run.result in let told = c.in-Ok.ensures in let at = c.finish.new.self in
    let old : DeviceState = g.D.SaveDevice.state a.device.now in let new : DeviceState = g.D.SaveDevice.state c.finish.new.device in
    let plan : IsPlanOver a.newest a.closed a.count a.armed (length memory) run.plan = record { slot = begun.slot; generation = begun.generation; count_is = begun.count; arm = begun.armed; shut = begun.closed; lines_are = begun.lines } in
    let runs : (candidates : Candidates) (image : Image) → IsReady candidates image a.newest a.closed memory old → Saving candidates image memory run old =
    λ candidates image ready. begun.begun candidates image memory old ready.rest ready.generation (is_memory memory c.told-memory) in
    record {
      old_or_new = λ image ready.
          weaker old new (old_or_new a.newest.slot image (made_over a.newest a.count a.armed memory))
          (stops_over a.newest a.closed a.count a.armed memory run.plan plan (only a.newest.slot image) image run old new _ refl ready (told.tries.any_moment (only a.newest.slot image) image (runs (only a.newest.slot image) image ready)));
      any_moment = λ candidates image ready.
          stops_over a.newest a.closed a.count a.armed memory run.plan plan candidates image run old new _ refl ready (told.tries.any_moment candidates image (runs candidates image ready));
      saved = λ candidates image ready.
          saved_over a.newest a.closed a.count a.armed memory at.plan (subst (IsPlanOver a.newest a.closed a.count a.armed (length memory)) (sym told.stands.plan) plan) new
          (save_done candidates image at.plan memory at.tried new (subst (λ (next : Step). SavingAt candidates image at.plan memory next at.tried new) told.ends (told.tries.saving candidates image (runs candidates image ready)).0));
      failed = tt;
      slot = c.next.ensures.slot;
      generation = c.next.ensures.generation;
      calls = let calls : new.calls ≡ _ = told.calls in rw (begun.closed, begun.lines, begun.next) at calls;
      size = told.tries.outside.size ∙ c.requires.size;
    }
