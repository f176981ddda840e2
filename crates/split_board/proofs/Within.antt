-- Each write of a life has a line of the memory.
use Rattle.std.proofs.Common.{All, ◌≡◌, ℕ, ◌<◌, List, [], ◌∷◌, Ok, None, arith, subst, sym}
use Rattle.std.proofs.lemmas.List.Elements.{All-append, All-cons, All-nil}
use Rattle.line_memory.specs.declared.Write.{Write}
use Rattle.nv_machine.specs.declared.events.Event.{Event}
use Rattle.nv_machine.specs.declared.events.Event.TheVariants as events
use Rattle.nv_machine.specs.declared.events.Reply.{Reply}
use Rattle.nv_machine.specs.declared.events.Reply.TheVariants as replies
use Rattle.nv_machine.specs.Guard.{IsGuarded}
use Rattle.nv_machine.specs.Headline.{Run, paused}
use Rattle.nv_machine.specs.Machine.{MachineStep}
use Rattle.nv_machine.specs.Refusals.{write_refusal}
use Rattle.nv_machine.specs.Rising.{added}
use Rattle.nv_machine.specs.State.{Machine, Setup, World}
use Rattle.nv_machine.proofs.EachEvent.{event_adds, guarded_event}
use Rattle.nv_machine.proofs.Guarded.{guarded_cut, guarded_new}
use Rattle.nv_machine.specs.Lives.{LivedUntil}

abbrev pub AreWithin : ℕ → List Write → Type 0
AreWithin lines writes = All (λ (w : Write). w.line < lines) writes

-- a write that isn't refused
accepted_within : (setup : Setup) (m : Machine) (line : ℕ) → write_refusal setup m line ≡ None → line < setup.shape.lines
accepted_within setup m line free = grind arith

-- what an event adds
added_within : (setup : Setup) (event : Event) (reply : Reply) (old new : World) → MachineStep setup event reply old new → AreWithin setup.shape.lines (added event reply)
added_within setup (events.Write w) (replies.Write (Ok accepted)) old new step =
    All-cons (λ (w : Write). w.line < setup.shape.lines) w [] (accepted_within setup old.machine w.line step.1.0) (All-nil (λ (w : Write). w.line < setup.shape.lines))
added_within setup _ _ old new step = All-nil (λ (w : Write). w.line < setup.shape.lines)

module _ (setup : Setup) where
  -- a run adds no other
  pub run_within : (events : List Event) (replies : List Reply) (old new : World) → Run setup events replies old new → IsGuarded old.machine → AreWithin setup.shape.lines old.machine.life.writes
      → AreWithin setup.shape.lines new.machine.life.writes
  run_within [] [] old new run guarded within = subst (λ (w : World). AreWithin setup.shape.lines w.machine.life.writes) (sym run.is) within
  run_within (event ∷ events) (reply ∷ replies) old new run guarded within =
      let before = paused run.1.pause old in
      let calm : IsGuarded before.machine = guarded_cut old.machine run.1.pause.cut run.1.may.cut guarded in
      run_within events replies run.0 new run.2 (guarded_event setup event reply before run.0 run.1.happens.step calm)
      (subst (AreWithin setup.shape.lines) (sym (event_adds setup event reply before run.0 run.1.happens.step calm))
      (All-append (λ (w : Write). w.line < setup.shape.lines) old.machine.life.writes (added event reply) within (added_within setup event reply before run.0 run.1.happens.step)))
  run_within _ _ old new none guarded within = absurd none

-- so each write of a life so far
pub lived_within : (setup : Setup) (now : World) → LivedUntil setup now → AreWithin setup.shape.lines now.machine.life.writes
lived_within setup now so =
    run_within setup so.events so.replies so.first now so.run
    (subst IsGuarded (sym so.begins) (guarded_new so.slot so.closed so.image))
    (subst (λ (m : Machine). AreWithin setup.shape.lines m.life.writes) (sym so.begins) (All-nil (λ (w : Write). w.line < setup.shape.lines)))
