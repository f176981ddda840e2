-- The writes of a run are those that its replies accepted, and each was told its place.
use Rattle.nv_machine.specs.declared.events.Accepted.{Accepted}
use Rattle.nv_machine.specs.declared.events.Event.TheVariants as events
use Rattle.nv_machine.specs.declared.events.Reply.TheVariants as replies
use Rattle.nv_machine.specs.Headline.{HappensNextBy, RunBy, paused}
use Rattle.nv_machine.specs.Rising.{AreNumberedFrom, TellsNumber, accepted_in}
use Rattle.nv_machine.proofs.Common.{List, [], Ok, ap, append-nil, append_assoc, arith, length, length-append, refl, subst, sym, ℕ, ◌++◌, ◌+◌, ◌∙◌, ◌∷◌, ◌≡◌, Write, Gauge, IsGuarded, MachineStep, added, Machine, Setup, World, all_of, start_of_life, Event, Reply}
use Rattle.nv_machine.proofs.EachEvent.{guarded_event, event_keeps}
use Rattle.nv_machine.proofs.Guarded.{guarded_cut}

-- an accepted write is told the count of those before it
write_numbered : (setup : Setup) (event : Event) (accepted : Accepted) (old new : World) → MachineStep setup event (replies.Write (Ok accepted)) old new → accepted.number ≡ all_of old.machine
write_numbered setup (events.Write write) accepted old new done = done.1.1.number
write_numbered setup (events.Read line) accepted old new none = absurd none
write_numbered setup (events.Collect ticket) accepted old new none = absurd none
write_numbered setup (events.Work channel) accepted old new none = absurd none
write_numbered setup events.Sense accepted old new none = absurd none
write_numbered setup events.Arm accepted old new none = absurd none
write_numbered setup events.Disarm accepted old new none = absurd none
write_numbered setup events.SaveBegin accepted old new none = absurd none
write_numbered setup events.SaveStep accepted old new none = absurd none
write_numbered setup events.Lose accepted old new none = absurd none

event_numbered : (setup : Setup) (event : Event) (reply : Reply) (old new : World) → MachineStep setup event reply old new → TellsNumber (all_of old.machine) reply
event_numbered setup event reply old new done accepted is =
    write_numbered setup event accepted old new (subst (λ (r : Reply). MachineStep setup event r old new) is done)

module _ (G : Gauge → Gauge → Type 0) (setup : Setup) where
  -- one event of a run, behind a pause: what it adds, and that it keeps the guard
  next_adds : (event : Event) (reply : Reply) (old new : World) → HappensNextBy G setup event reply old new → IsGuarded old.machine
      → (new.machine.life.writes ≡ old.machine.life.writes ++ added event reply) × (all_of new.machine ≡ all_of old.machine + length (added event reply)) × IsGuarded new.machine
  next_adds event reply old new next guarded =
      let before = paused next.pause old in
      let cut = guarded_cut old.machine next.pause.cut next.may.cut guarded in
      let keeps = event_keeps setup event reply before new next.happens.step cut in
      let size : length new.machine.life.writes ≡ length old.machine.life.writes + length (added event reply) = ap length keeps.writes ∙ length-append old.machine.life.writes (added event reply) in
      (keeps.writes, rw keeps.opened (omega (arith, size)), guarded_event setup event reply before new next.happens.step cut)

  pub run_accepts : (events : List Event) (replies : List Reply) (old new : World) → RunBy G setup events replies old new → IsGuarded old.machine
      → new.machine.life.writes ≡ old.machine.life.writes ++ accepted_in events replies
  run_accepts [] [] old new run guarded = rw run.is (sym (append-nil old.machine.life.writes))
  run_accepts (event ∷ events) (reply ∷ replies) old new run guarded =
      let next = next_adds event reply old run.0 run.1 guarded in
      run_accepts events replies run.0 new run.2 next.2
      ∙ ap (λ (ws : List Write). ws ++ accepted_in events replies) next.0
      ∙ append_assoc old.machine.life.writes (added event reply) (accepted_in events replies)
  run_accepts _ _ old new none guarded = absurd none

  pub run_numbers : (events : List Event) (replies : List Reply) (old new : World) → RunBy G setup events replies old new → IsGuarded old.machine
      → AreNumberedFrom (all_of old.machine) events replies
  run_numbers [] [] old new run guarded = tt
  run_numbers (event ∷ events) (reply ∷ replies) old new run guarded =
      let next = next_adds event reply old run.0 run.1 guarded in (
        event_numbered setup event reply (paused run.1.pause old) run.0 run.1.happens.step,
        subst (λ (all : ℕ). AreNumberedFrom all events replies) next.1 (run_numbers events replies run.0 new run.2 next.2),
      )
  run_numbers _ _ old new none guarded = absurd none
