-- The steps of a save, and what they leave.
use Rattle.std.proofs.Common.{◌≡◌, ℕ, ◌∙◌, refl, sym, ap, subst, None, Ok, Err, false, Result}
use Rattle.nv_session.proofs.Common.{ArmRefusal, HasSaved, IsSavedBy, Machine, RunningSave, SameButWaits, SameWrites}
use Rattle.nv_session.proofs.Common.{SaveBeginStep, SaveStepStep, Setup, StepReply, World, memory_after, newest_of}
use Rattle.slot_store.specs.Rest.{only}
use Rattle.arm_state.specs.declared.mode.Mode.{Mode}
use Rattle.arm_state.specs.declared.mode.Mode.TheVariants.{Disarmed, Armed, Disarming, Stranded, Closing, Saved}
use Rattle.arm_state.specs.declared.moves.Move.TheVariants.{EndSave}
use Rattle.arm_state.specs.Moves.{mode_after}
use Rattle.arm_state.specs.Modes.{is_armed}
use Rattle.nv_machine.specs.declared.events.StepReply.TheVariants as step
use Rattle.nv_machine.specs.Guard.{IsGuarded}
use Rattle.nv_machine.proofs.Guarded.{memory_made, unarmed_made}

still_unarmed : (mode : Mode) → is_armed (mode_after EndSave mode) ≡ false → is_armed mode ≡ false
still_unarmed Disarmed unarmed = refl
still_unarmed Armed unarmed = unarmed
still_unarmed Disarming unarmed = refl
still_unarmed Stranded unarmed = refl
still_unarmed Closing unarmed = refl
still_unarmed Saved unarmed = refl

pub step_keeps : (setup : Setup) (reply : StepReply) (old new : World) → SaveStepStep setup reply old new → SameWrites old.machine new.machine
step_keeps setup step.NoSave old new told = record { opened = ap (λ (w : World). w.machine.life.opened) told.1; writes = ap (λ (w : World). w.machine.life.writes) told.1 }
step_keeps setup step.Waiting old new told = record { opened = ap (λ (w : World). w.machine.life.opened) told.3; writes = ap (λ (w : World). w.machine.life.writes) told.3 }
step_keeps setup step.Turned old new told = record { opened = ap (λ (w : World). w.machine.life.opened) told.5; writes = ap (λ (w : World). w.machine.life.writes) told.5 }
step_keeps setup (step.Did made) old new told =
    record { opened = ap (λ (m : Machine). m.life.opened) told.6.2; writes = ap (λ (m : Machine). m.life.writes) told.6.2 }
step_keeps setup (step.Saved generation count) old new told =
    record { opened = ap (λ (m : Machine). m.life.opened) told.6.3; writes = ap (λ (m : Machine). m.life.writes) told.6.3 }
step_keeps setup step.Retry old new told =
    record { opened = ap (λ (m : Machine). m.life.opened) told.6.1; writes = ap (λ (m : Machine). m.life.writes) told.6.1 }
step_keeps setup step.Fault old new told =
    record { opened = ap (λ (m : Machine). m.life.opened) told.6.1; writes = ap (λ (m : Machine). m.life.writes) told.6.1 }

step_saves : (setup : Setup) (generation count : ℕ) (old new : World) → IsGuarded old.machine → SaveStepStep setup (step.Saved generation count) old new → HasSaved generation count new.machine
step_saves setup generation count old new guarded told =
    let save : RunningSave = told.0 in
    let is = told.6.3 in
    record {
      idle = subst (λ (m : Machine). m.store.saving ≡ None) (sym is) refl;
      generation_is = ap (λ (m : Machine). (newest_of m).generation) is ∙ sym told.6.1;
      count_is = ap (λ (m : Machine). (newest_of m).count) is ∙ sym told.6.2;
      memory = subst (λ (m : Machine). (newest_of m).memory ≡ memory_after m count) (sym is)
          (subst (λ (n : ℕ). save.made.memory ≡ memory_after old.machine n) (sym told.6.2) (memory_made old.machine save guarded told.1.runs));
      alone = subst (λ (m : Machine). m.store.maybe ≡ only m.store.maybe.slot (newest_of m)) (sym is) refl;
      complete = subst (λ (m : Machine). is_armed m.mode ≡ false → (newest_of m).arm ≡ 0) (sym is)
          (λ unarmed. unarmed_made old.machine save guarded told.1.runs (still_unarmed old.machine.mode unarmed));
    }

pub step_ends : (setup : Setup) (reply : StepReply) (old new : World) → IsGuarded old.machine → SaveStepStep setup reply old new → IsSavedBy reply new.machine
step_ends setup step.NoSave old new guarded told = tt
step_ends setup step.Waiting old new guarded told = tt
step_ends setup step.Turned old new guarded told = tt
step_ends setup (step.Did made) old new guarded told = tt
step_ends setup (step.Saved generation count) old new guarded told = step_saves setup generation count old new guarded told
step_ends setup step.Retry old new guarded told = tt
step_ends setup step.Fault old new guarded told = tt

pub begin_keeps : (result : Result (Unit {0}) ArmRefusal) (old new : Machine) → SaveBeginStep result old new → SameWrites old new
begin_keeps (Ok begins) old new told = record { opened = ap (λ (m : Machine). m.life.opened) told.1; writes = ap (λ (m : Machine). m.life.writes) told.1 }
begin_keeps (Err refusal) old new told = record { opened = ap (λ (m : Machine). m.life.opened) told.1; writes = ap (λ (m : Machine). m.life.writes) told.1 }

pub same_writes_on : (m n l : Machine) → SameWrites m n → SameWrites n l → SameWrites m l
same_writes_on m n l first next = record { opened = next.opened ∙ first.opened; writes = next.writes ∙ first.writes }

pub waits_keep : (m n : Machine) → SameButWaits m n → SameWrites m n
waits_keep m n same = record { opened = ap (λ (x : Machine). x.life.opened) same; writes = ap (λ (x : Machine). x.life.writes) same }
