-- The writes of a life are those that its replies accepted.
use Rattle.nv_machine.specs.declared.events.Event.{Event}
use Rattle.nv_machine.specs.declared.events.Reply.{Reply}
use Rattle.nv_machine.specs.Headline.{AnyRun, paused}
use Rattle.nv_machine.proofs.Common.{List, [], ap, sym, ◌++◌, ◌∙◌, ◌∷◌, ◌≡◌, append_assoc, append-nil, Write, IsGuarded, added, Machine, Setup, World, IsLived, Lived}
use Rattle.nv_machine.proofs.EachEvent.{guarded_event, event_keeps}
use Rattle.nv_machine.proofs.Guarded.{guarded_cut}
use Rattle.nv_machine.proofs.StoppedLives.{guarded_first}
use Rattle.nv_machine.specs.Rising.{accepted_in}

module _ (setup : Setup) where
  run_adds : (events : List Event) (replies : List Reply) (old new : World) → AnyRun setup events replies old new → IsGuarded old.machine
      → new.machine.life.writes ≡ old.machine.life.writes ++ accepted_in events replies
  run_adds [] [] old new run guarded = rw run.is (sym (append-nil old.machine.life.writes))
  run_adds (event ∷ events) (reply ∷ replies) old new run guarded =
      let cut = guarded_cut old.machine run.1.pause.cut run.1.may.cut guarded in
      let here = (event_keeps setup event reply (paused run.1.pause old) run.0 run.1.happens.step cut).writes in
      run_adds events replies run.0 new run.2 (guarded_event setup event reply (paused run.1.pause old) run.0 run.1.happens.step cut)
      ∙ ap (λ (ws : List Write). ws ++ accepted_in events replies) here
      ∙ append_assoc old.machine.life.writes (added event reply) (accepted_in events replies)
  run_adds _ _ old new none guarded = absurd none

pub life_writes : (life : Lived) → IsLived life → life.last.machine.life.writes ≡ accepted_in life.events life.replies
life_writes life lived =
    run_adds life.setup life.events life.replies life.first life.last lived.run (guarded_first life lived)
    ∙ ap (λ (m : Machine). m.life.writes ++ accepted_in life.events life.replies) lived.begins
