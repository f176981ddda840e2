use Rattle.std.proofs.Common.{None}
use Rattle.arm_state.specs.Refusals.{arm_refusal}
use Rattle.arm_state.specs.declared.refusal.ArmRefusal.{ArmRefusal}
use Rattle.nv_machine.specs.Machine.{ArmStep}
use Rattle.nv_machine.specs.Moves.{arm_failed}
use Rattle.nv_machine.specs.Refusals.{need_for}
use Rattle.nv_machine.specs.State.{newest_of}
use Rattle.slot_store.specs.Rest.{IsAtRestOn, IsAtRestRearmed}
use Rattle.arm_state.specs.declared.refusal.ArmRefusal.TheVariants as refusals
use Rattle.arm_state.specs.declared.refusal.ArmReply.TheVariants as arm
use Rattle.nv_machine.specs.declared.events.Event.TheVariants as events
use Rattle.nv_machine.specs.declared.events.Reply.TheVariants as replies
use Rattle.module_core.proofs.Common.{ℕ, ◌<◌, ◌∙◌, ◌≡◌, DeviceState, Err, Gauge, Machine, Mode, Ok, Slot, ap, armed, assembly, false, inl, is_armed, lines_of_module, marks, read_as, rearmed, refl, rules, saves_of, setup_of, subst, sym, world_of}
use Rattle.module_core.proofs.Applying.{alone, reread, unissued, unmoved}
use Rattle.module_core.proofs.ArmSteps.{alone_there, answers_marked, arm_refused, energy_enough, energy_is, may_arm, needs, rests_armed, rests_rearmed, unarmed, unmarked, unrefused}
use Rattle.module_core.proofs.module.Module.arm.Goals as goal

pub returns-then-is_armed-clause-answers : goal.returns-then-is_armed-clause-answers
returns-then-is_armed-clause-answers g c = search (rules, unmoved)

pub returns-in-Some-clause-answers : goal.returns-in-Some-clause-answers
returns-in-Some-clause-answers g c =
    let device : DeviceState = g.D.SaveDevice.state c.args.device.now in let gauge : Gauge = g.E.Energy.gauge c.args.energy.now in
    unmoved g.K.ChannelPort events.Arm (replies.Arm (Err c.in-Some.refusal)) c.args.self.now device gauge
    (λ m h.
    arm_refused (setup_of g.K.ChannelPort c.args.self.now) (record { machine = m; device = device; gauge = gauge }) c.in-Some.refusal (ap is_armed (sym h.front.mode) ∙ (let e : is_armed c.args.self.now.front.mode ≡ false = cc in e))
    (ap (λ (x : Mode). arm_refusal x (saves_of m)) (sym h.front.mode) ∙ ap (arm_refusal c.args.self.now.front.mode) (sym (c.save_state.ensures.state m h)) ∙ sym c.arm_refusal.ensures ∙ c.in-Some.is)) refl (unmarked c.args.self.now.front.mode c.save_state.result c.in-Some.refusal (sym c.arm_refusal.ensures ∙ c.in-Some.is)) (λ m h. tt) (unissued g.K.ChannelPort c.args.self.now.channels)

pub returns-in-Some-energy_refusal-clause-answers : goal.returns-in-Some-energy_refusal-clause-answers
returns-in-Some-energy_refusal-clause-answers g c =
    let L = g.K.ChannelPort in let old = c.args.self.now in let device : DeviceState = g.D.SaveDevice.state c.args.device.now in let before : Gauge = g.E.Energy.gauge c.args.energy.now in let later : Gauge = g.E.Energy.gauge c.sense-self.new.self in
    let reading : ℕ = c.sense-self.result in let r : ArmRefusal = c.in-Some-energy_refusal.refusal in let need : ℕ = c.need_for-need.result in
    let is : (reading < need) × (r ≡ refusals.NeedEnergy need reading) = energy_is need reading r (sym c.energy_refusal.ensures ∙ c.in-Some-energy_refusal.is) in
    let off : is_armed old.front.mode ≡ false = cc in
    alone L events.Arm (replies.Arm (Err r)) old _ device before later refl (λ m h.
    let free : arm_refusal old.front.mode (saves_of m) ≡ None = ap (arm_refusal old.front.mode) (sym (c.save_state.ensures.state m h)) ∙ sym c.arm_refusal.ensures ∙ c.in_default.is in record {
      later = read_as reading m;
      step = subst (λ (x : ArmRefusal). ArmStep (setup_of L old) (Err x) (record { machine = m; device = device; gauge = before }) (record { machine = read_as reading m; device = device; gauge = later })) (sym is.1) (record {
        unarmed = unarmed L old m h off free;
        unrefused = unrefused L old m h off free;
        reads = c.sense-self.ensures;
        need_is = needs L old m h off free need (c.need_for-need.ensures.value ∙ ap (need_for (setup_of L old)) c.pending.ensures.is);
        little = is.0;
        is = refl;
      });
      matches = reread L old _ m h (record { numbers = record { terms = refl; accepted = refl; persisted = refl }; mode = refl; saves = refl; shape = refl }) refl;
      moves = inl (refl, refl);
    }) refl (subst (λ (x : ArmRefusal). marks (replies.Arm (Err x)) ≡ false) (sym is.1) refl) (λ m h. tt) (unissued L old.channels)

pub returns-in_default-mark_armed-clause-answers : goal.returns-in_default-mark_armed-clause-answers
returns-in_default-mark_armed-clause-answers g c = λ m stands.
    let L = g.K.ChannelPort in let old = c.args.self.now in let h = stands.matches in let device : DeviceState = g.D.SaveDevice.state c.args.device.now in let before : Gauge = g.E.Energy.gauge c.args.energy.now in
    let new = assembly _ (g.D.SaveDevice.state c.mark_armed.new.device) (g.E.Energy.gauge c.sense-self.new.self) in let reading : ℕ = c.sense-self.result in let need : ℕ = c.need_for-need.result in
    let off : is_armed old.front.mode ≡ false = cc in
    let free : arm_refusal old.front.mode (saves_of m) ≡ None = ap (arm_refusal old.front.mode) (sym (c.save_state.ensures.state m h)) ∙ sym c.arm_refusal.ensures ∙ c.in_default.is in
    let here = alone_there L old device m stands off free in let n : Machine = arm_failed (read_as reading m) in
    answers_marked L old device m stands off free (Err refusals.Device) refl before new refl (unissued L old.channels) refl n (
      may_arm L old m h off free device before (world_of L new n) need (c.need_for-need.ensures.value ∙ ap (need_for (setup_of L old)) c.pending.ensures.is)
          (energy_enough need reading (sym c.energy_refusal.ensures ∙ c.in_default-energy_refusal.is)) c.sense-self.ensures,
      c.in_default-mark_armed.ensures.calls,
      refl,
    )
    (search rules) refl
    (rests_rearmed (lines_of_module L old) (read_as reading m) new.device (subst (λ (x : Slot). IsAtRestRearmed x (newest_of m) (lines_of_module L old) m.store.closed new.device) h.front.knows.slot
    (c.in_default-mark_armed.ensures.failed (newest_of m) (lines_of_module L old) m.store.closed here)))
    (c.mark_armed.ensures.any_moment (newest_of m) (lines_of_module L old) m.store.closed here)

pub returns-clause-answers : goal.returns-clause-answers
returns-clause-answers g c = λ m stands.
    let L = g.K.ChannelPort in let old = c.args.self.now in let h = stands.matches in let device : DeviceState = g.D.SaveDevice.state c.args.device.now in let before : Gauge = g.E.Energy.gauge c.args.energy.now in
    let new = assembly _ (g.D.SaveDevice.state c.mark_armed.new.device) (g.E.Energy.gauge c.sense-self.new.self) in let reading : ℕ = c.sense-self.result in let need : ℕ = c.need_for-need.result in
    let off : is_armed old.front.mode ≡ false = cc in
    let free : arm_refusal old.front.mode (saves_of m) ≡ None = ap (arm_refusal old.front.mode) (sym (c.save_state.ensures.state m h)) ∙ sym c.arm_refusal.ensures ∙ c.in_default.is in
    let here = alone_there L old device m stands off free in let n : Machine = armed (read_as reading m) in
    answers_marked L old device m stands off free (Ok arm.Armed) refl before new refl (unissued L old.channels) refl n (
      may_arm L old m h off free device before (world_of L new n) need (c.need_for-need.ensures.value ∙ ap (need_for (setup_of L old)) c.pending.ensures.is)
          (energy_enough need reading (sym c.energy_refusal.ensures ∙ c.in_default-energy_refusal.is)) c.sense-self.ensures,
      c.in-Ok.ensures.calls,
      refl,
    )
    (search rules) refl
    (rests_armed (lines_of_module L old) (read_as reading m) new.device (subst (λ (x : Slot). IsAtRestOn x (rearmed (newest_of m) 0x5A) (lines_of_module L old) m.store.closed new.device) h.front.knows.slot
    (c.in-Ok.ensures.armed (newest_of m) (lines_of_module L old) m.store.closed here)))
    (c.mark_armed.ensures.any_moment (newest_of m) (lines_of_module L old) m.store.closed here)

pub returns-in_default-mark_armed-clause-size : goal.returns-in_default-mark_armed-clause-size
returns-in_default-mark_armed-clause-size g c = (c.mark_armed.ensures.outside (lines_of_module g.K.ChannelPort c.args.self.now) c.requires).size ∙ c.requires

pub returns-clause-size : goal.returns-clause-size
returns-clause-size g c = (c.mark_armed.ensures.outside (lines_of_module g.K.ChannelPort c.args.self.now) c.requires).size ∙ c.requires
