-- An honest gauge backs the writes through a whole run, and where each loss saves all no closing save is broken off.
use Rattle.energy_budget.specs.Charging.{RisesTo}
use Rattle.nv_machine.specs.Headline.{Pause, paused, pause_at}
use Rattle.nv_machine.specs.Honesty.{IsHonestAlong, SavesAllAlong}
use Rattle.nv_machine.proofs.Common.{List, [], ap, arith, false, subst, sym, ◌∙◌, ◌∷◌, ◌≡◌, Gauge, IsBacked, IsHonestThrough, IsGuarded, is_broken_off, Machine, Run, IsBackedAt, Setup, World, Event, Reply}
use Rattle.nv_machine.proofs.EachEvent.{guarded_event, event_keeps}
use Rattle.nv_machine.proofs.Guarded.{guarded_cut}

-- a gauge that was charged without a fault backs what it backed
charged_backs : (setup : Setup) (m : Machine) (old new : Gauge) → RisesTo old new → new.faults ≡ old.faults → IsBacked setup m old → IsBacked setup m new
charged_backs setup m old new rises faultless backed = record {
  bound = λ on. omega (arith, backed.bound on, rises.rises faultless);
  shown = backed.shown;
  read = λ on. omega (arith, backed.read on, rises.rises faultless);
}

module _ (setup : Setup) where
  -- so it does before the next event
  backed_next : (old : World) (pause : Pause) → RisesTo old.gauge pause.gauge → IsHonestThrough setup.shape.costs.numbers.leak old.gauge pause.gauge → IsBackedAt setup old → IsBackedAt setup (paused pause old)
  backed_next old pause rises honest backed =
      let charged = charged_backs setup old.machine old.gauge pause.gauge rises honest.faultless backed in record { bound = charged.bound; shown = charged.shown; read = charged.read }

  pub backed_along : (events : List Event) (replies : List Reply) (old new : World) (run : Run setup events replies old new) → IsHonestAlong setup events replies old new run → IsBackedAt setup old
      → IsBackedAt setup new
  backed_along [] [] old new run honest backed = subst (IsBackedAt setup) (sym run.is) (backed_next old (pause_at new) run.may.gauge honest backed)
  backed_along (event ∷ events) (reply ∷ replies) old new run honest backed =
      backed_along events replies run.0 new run.2 honest.2 (run.1.happens.honest honest.1 (backed_next old run.1.pause run.1.may.gauge honest.0 backed)).backed
  backed_along _ _ old new none honest backed = absurd none

  pub saved_along : (events : List Event) (replies : List Reply) (old new : World) (run : Run setup events replies old new) → IsHonestAlong setup events replies old new run → IsBackedAt setup old
      → SavesAllAlong setup events replies old new run
  saved_along [] [] old new run honest backed = tt
  saved_along (event ∷ events) (reply ∷ replies) old new run honest backed =
      let stays = run.1.happens.honest honest.1 (backed_next old run.1.pause run.1.may.gauge honest.0 backed) in (stays.saves, saved_along events replies run.0 new run.2 honest.2 stays.backed)
  saved_along _ _ old new none honest backed = absurd none

  -- no closing save is broken off where each loss saves all
  pub unbroken_along : (events : List Event) (replies : List Reply) (old new : World) (run : Run setup events replies old new) → IsGuarded old.machine
      → SavesAllAlong setup events replies old new run → is_broken_off old.machine.lost ≡ false → is_broken_off new.machine.lost ≡ false
  unbroken_along [] [] old new run guarded saves calm = ap (λ (w : World). is_broken_off w.machine.lost) run.is ∙ calm
  unbroken_along (event ∷ events) (reply ∷ replies) old new run guarded saves calm =
      let from : World = paused run.1.pause old in let started = guarded_cut old.machine run.1.pause.cut run.1.may.cut guarded in
      unbroken_along events replies run.0 new run.2 (guarded_event setup event reply from run.0 run.1.happens.step started) saves.1
      ((event_keeps setup event reply from run.0 run.1.happens.step started).unbroken saves.0 calm)
  unbroken_along _ _ old new none guarded saves calm = absurd none
