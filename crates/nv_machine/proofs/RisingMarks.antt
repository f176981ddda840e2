-- In a run the history of a life only grows, no mark falls, and no reply tells of more than is so.
use Rattle.line_memory.specs.History.{write_at}
use Rattle.energy_budget.specs.Charging.{RisesTo}
use Rattle.nv_machine.specs.Headline.{HappensNextBy, RunBy, paused}
use Rattle.nv_machine.specs.Rising.{KeepsHistory, Rises, RisesAlong}
use Rattle.nv_machine.proofs.Common.{All, List, [], ap, append_assoc, arith, length, refl, suc, sym, zero, ℕ, ◌++◌, ◌+◌, ◌-◌, ◌<◌, ◌∙◌, ◌∷◌, ◌≡◌, ◌≤◌, slice_get, append-nil, length-append, take-append-le, All-cons, All-nil, after, Write, Gauge, IsGuarded, Run, Run, MachineStep, added, Machine, Setup, World, base_of_life, start_of_life, told_mark, Event, Reply}
use Rattle.nv_machine.proofs.EachEvent.{guarded_event, event_keeps}
use Rattle.nv_machine.proofs.Guarded.{guarded_cut}

pub event_rises : (setup : Setup) (event : Event) (reply : Reply) (old new : World) → MachineStep setup event reply old new → IsGuarded old.machine → Rises old.machine new.machine
event_rises setup event reply old new done guarded =
    let keeps = event_keeps setup event reply old new done guarded in
    let size : length new.machine.life.writes ≡ length old.machine.life.writes + length (added event reply) = ap length keeps.writes ∙ length-append old.machine.life.writes (added event reply) in
    record { opened = keeps.opened; more = added event reply; history = keeps.writes; accepted = rw keeps.opened (omega (arith, size)); persisted = keeps.persisted }

-- one rise after another
rises_on : (m n p : Machine) → Rises m n → Rises n p → Rises m p
rises_on m n p first second = record {
  opened = second.opened ∙ first.opened;
  more = first.more ++ second.more;
  history = second.history ∙ ap (λ (ws : List Write). ws ++ second.more) first.history ∙ append_assoc m.life.writes first.more second.more;
  accepted = omega (arith, first.accepted, second.accepted);
  persisted = omega (arith, first.persisted, second.persisted);
}

module _ (G : Gauge → Gauge → Type 0) (setup : Setup) where
  -- an event behind a pause
  guarded_next : (event : Event) (reply : Reply) (old new : World) → HappensNextBy G setup event reply old new → IsGuarded old.machine → IsGuarded new.machine
  guarded_next event reply old new next guarded =
      guarded_event setup event reply (paused next.pause old) new next.happens.step (guarded_cut old.machine next.pause.cut next.may.cut guarded)

  rises_next : (event : Event) (reply : Reply) (old new : World) → HappensNextBy G setup event reply old new → IsGuarded old.machine → Rises old.machine new.machine
  rises_next event reply old new next guarded =
      let rises = event_rises setup event reply (paused next.pause old) new next.happens.step (guarded_cut old.machine next.pause.cut next.may.cut guarded) in
      record { opened = rises.opened; more = rises.more; history = rises.history; accepted = rises.accepted; persisted = rises.persisted }

  -- from the first moment of a run to its last
  pub run_rises_by : (events : List Event) (replies : List Reply) (old new : World) → RunBy G setup events replies old new → IsGuarded old.machine → Rises old.machine new.machine
  run_rises_by [] [] old new run guarded = rw run.is (record { opened = refl; more = []; history = sym (append-nil old.machine.life.writes); accepted = omega arith; persisted = omega arith })
  run_rises_by (event ∷ events) (reply ∷ replies) old new run guarded =
      rises_on old.machine run.0.machine new.machine (rises_next event reply old run.0 run.1 guarded)
      (run_rises_by events replies run.0 new run.2 (guarded_next event reply old run.0 run.1 guarded))
  run_rises_by _ _ old new none guarded = absurd none

  -- each reply of a run tells of no more than is acknowledged in the end
  pub told_by : (events : List Event) (replies : List Reply) (old new : World) → RunBy G setup events replies old new → IsGuarded old.machine → All (λ reply. told_mark reply ≤ new.machine.life.persisted) replies
  told_by [] [] old new run guarded = All-nil _
  told_by (event ∷ events) (reply ∷ replies) old new run guarded =
      let later = guarded_next event reply old run.0 run.1 guarded in
      let told : told_mark reply ≤ new.machine.life.persisted = omega (arith, (event_keeps setup event reply (paused run.1.pause old) run.0 run.1.happens.step (guarded_cut old.machine run.1.pause.cut run.1.may.cut guarded)).told, (run_rises_by events replies run.0 new run.2 later).persisted) in
      All-cons (λ (reply : Reply). told_mark reply ≤ new.machine.life.persisted) reply replies told (told_by events replies run.0 new run.2 later)
  told_by _ _ old new none guarded = absurd none

module _ (setup : Setup) where
  -- in each event of a run with one gauge
  pub along_rises : (events : List Event) (replies : List Reply) (old new : World) (run : Run setup events replies old new) → IsGuarded old.machine → RisesAlong setup events replies old new run
  along_rises [] [] old new run guarded = tt
  along_rises (event ∷ events) (reply ∷ replies) old new run guarded =
      (rises_next RisesTo setup event reply old run.0 run.1 guarded, along_rises events replies run.0 new run.2 (guarded_next RisesTo setup event reply old run.0 run.1 guarded))
  along_rises _ _ old new none guarded = absurd none

pub run_rises : (setup : Setup) (events : List Event) (replies : List Reply) (old new : World) → Run setup events replies old new → IsGuarded old.machine → Rises old.machine new.machine
run_rises = run_rises_by RisesTo

pub told_along : (setup : Setup) (events : List Event) (replies : List Reply) (old new : World) → Run setup events replies old new → IsGuarded old.machine
    → All (λ reply. told_mark reply ≤ new.machine.life.persisted) replies
told_along = told_by RisesTo

-- an element of the front of a list
get_front : (xs ys : List Write) (i : ℕ) → i < length xs → slice_get (xs ++ ys) i ≡ slice_get xs i
get_front [] ys i below = absurd (omega (arith, below))
get_front (x ∷ xs) ys zero below = refl
get_front (x ∷ xs) ys (suc i) below = get_front xs ys i (omega arith)

-- the write of a number stays where it stands
write_stands : (start number : ℕ) (xs ys : List Write) → number < start + length xs → write_at start (xs ++ ys) number ≡ write_at start xs number
write_stands start number xs ys below = grind (arith, get_front)

pub keeps_history : (old new : Machine) → Rises old new → KeepsHistory old new
keeps_history old new rises = record {
  writes = λ number below. rw (rises.opened, rises.history) (write_stands (start_of_life old.life) number old.life.writes rises.more below);
  memory = λ at least most. rw (rises.opened, rises.history) (ap (after (base_of_life old.life)) (take-append-le (at - start_of_life old.life) old.life.writes rises.more (omega (arith, most))));
}
