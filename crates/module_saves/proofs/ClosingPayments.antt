-- A save of the arrays whose steps are paid for, as the gauge sees it.
use Rattle.module_saves.specs.Closing.{ArraysAt, PaysForStep, arrays_at, payments}
use Rattle.module_saves.specs.declared.closing.PaidArrays.{PaidArrays}
use Rattle.slot_store.proofs.Repeated.{repeating_as, tried_keeps}
use Rattle.slot_store.specs.Finishing.{Finish, Underway, step_on, underway}
use Rattle.slot_store.specs.Repeating.{FinishesRepeating}
use Rattle.slot_store.specs.declared.source.Refused.{Refused}
use Rattle.slot_store.specs.declared.source.SaveSource
use Rattle.module_saves.proofs.Common.{ℕ, ◌≡◌, ◌∙◌, Gauge, Ghosts, Result, Step, ap, subst, sym, view_of}

module _ {K E : Type 0} (L : Ghosts K) (gauge : E → Gauge) (G : SaveSource.Ghosts (PaidArrays K E L)) where
  -- the gauge that was lent comes back as the steps left it
  pub finishes_paid : ((old : PaidArrays K E L) (step : Step) (result : Result (Unit {0}) Refused) (new : PaidArrays K E L) → G.asks old step result new → PaysForStep L gauge old step result new)
      → ((arrays : PaidArrays K E L) → G.memory arrays ≡ (view_of L arrays.channels.now).array)
      → (repeats : ℕ) (finish : Finish) (old new : Underway (PaidArrays K E L)) → FinishesRepeating G repeats finish old new → (back : E) → (old.source.energy.ghost_name ≡ new.source.energy.ghost_name → back ≡ new.source.energy.now)
      → FinishesRepeating payments repeats finish (underway (arrays_at (view_of L old.source.channels.now) (gauge old.source.energy.now)) old.run old.device)
      (underway (arrays_at (view_of L old.source.channels.now) (gauge back)) new.run new.device)
  finishes_paid asks memory repeats finish old new told back comes_back =
      let name : new.source.energy.ghost_name ≡ old.source.energy.ghost_name = tried_keeps G.asks (λ arrays. arrays.energy.ghost_name) (λ a s r b asked. (asks a s r b asked).gauge_is) (step_on old.run) finish told.tries old.source new.source told.asks in
      let channels : new.source.channels ≡ old.source.channels = tried_keeps G.asks (λ arrays. arrays.channels) (λ a s r b asked. (asks a s r b asked).channels) (step_on old.run) finish told.tries old.source new.source told.asks in
      let see : PaidArrays K E L → ArraysAt = λ arrays. arrays_at (view_of L arrays.channels.now) (gauge arrays.energy.now) in
      let seen : see new.source ≡ arrays_at (view_of L old.source.channels.now) (gauge back) =
      ap (λ channels. arrays_at (view_of L channels.now) (gauge new.source.energy.now)) channels ∙ ap (λ (e : E). arrays_at (view_of L old.source.channels.now) (gauge e)) (sym (comes_back (sym name))) in
      subst (λ (arrays : ArraysAt). FinishesRepeating payments repeats finish (underway (see old.source) old.run old.device) (underway arrays new.run new.device)) seen
      (repeating_as G payments see (λ a s r b asked. ((asks a s r b asked).pays, ap (λ channels. view_of L channels.now) (asks a s r b asked).channels)) memory repeats finish old new told)
