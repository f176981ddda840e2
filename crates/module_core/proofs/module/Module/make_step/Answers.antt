use Rattle.channel_port.specs.Waits.{AllBelow, Waits}
use Rattle.module_saves.specs.Saving.{IsOfLines}
use Rattle.module_core.specs.Fronts.{FrontMatches}
use Rattle.module_core.specs.declared.front.Front.{Front}
use Rattle.module_core.specs.declared.opening.LifeTerms.{LifeTerms}
use Rattle.nv_machine.specs.Machine.{MadeStep}
use Rattle.nv_machine.specs.declared.events.StepReply.{StepReply}
use Rattle.slot_store.specs.Slots.{HasSize}
use Rattle.module_core.proofs.SteppedChannels.{behind_fault, behind_others, behind_step}
use Rattle.module_core.proofs.Common.{ChannelsView, ReachesStore, ap, lines_of_module, refl, setup_of, shape_of, subst, sym, view_of, ℕ, ◌∙◌}
use Rattle.module_core.proofs.module.Module.make_step.Goals as goal

pub invariant_of-self-in_default : goal.invariant_of-self-in_default
invariant_of-self-in_default g c =
    let old = c.args.self.now in let e = c.make_step-reply.ensures in
    record {
      below = subst (λ (n : ℕ). AllBelow n (view_of g.K.ChannelPort old.channels).waits.writes) (sym e.accepted) old.below;
      mains = λ on. old.mains (sym e.ended ∙ on);
      running = e.lines (lines_of_module g.K.ChannelPort old) old.running;
    }

pub invariant_of-self-in-Did : goal.invariant_of-self-in-Did
invariant_of-self-in-Did g c =
    let old = c.args.self.now in let e = c.make_step-reply.ensures in
    record {
      below = subst (λ (n : ℕ). AllBelow n (view_of g.K.ChannelPort old.channels).waits.writes) (sym e.accepted) old.below;
      mains = λ on. old.mains (sym e.ended ∙ on);
      running = e.lines (lines_of_module g.K.ChannelPort old) old.running;
    }

pub invariant_of-self : goal.invariant_of-self
invariant_of-self g c =
    let old = c.args.self.now in let e = c.make_step-reply.ensures in
    record {
      below = subst (λ (n : ℕ). AllBelow n (view_of g.K.ChannelPort c.hold.new.self).waits.writes) (sym e.accepted) (subst (λ (w : Waits). AllBelow old.front.accepted w.writes) (sym (ap (λ (v : ChannelsView). v.waits) c.hold.ensures.held)) old.below);
      mains = λ on. c.hold.ensures.mains (old.mains (sym e.ended ∙ on));
      running = subst (λ (v : ChannelsView). IsOfLines v.shape.lines c.make_step-reply.new.self.saves.saving) (sym c.hold.ensures.held) (e.lines (lines_of_module g.K.ChannelPort old) old.running);
    }

pub returns-in-Fault-clause-made : goal.returns-in-Fault-clause-made
returns-in-Fault-clause-made g c = λ m save ready h.
    let L = g.K.ChannelPort in let old = c.args.self.now in let setup = setup_of L old in
    let made = c.make_step-reply.ensures.made (shape_of L old.channels) c.repeats-repeats.ensures m save ready h.front in
    let behind = behind_fault L setup save m made.later ready.runs old.channels (record { memory = h.memory; carried = h.carried }) c.hold.new.self c.hold.ensures.held c.hold.ensures.keeps
    (subst (λ (x : StepReply). MadeStep setup save x m made.later) c.in-Fault.is made.step) in
    record { later = made.later; step = made.step; matches = record { front = made.matches; memory = behind.memory; carried = behind.carried }; reaches = made.reaches }

pub returns-in-Did-clause-made : goal.returns-in-Did-clause-made
returns-in-Did-clause-made g c = λ m save ready h.
    let L = g.K.ChannelPort in let old = c.args.self.now in let setup = setup_of L old in let rest = c.release_behind_pages.ensures in
    let made = c.make_step-reply.ensures.made (shape_of L old.channels) c.repeats-repeats.ensures m save ready h.front in
    let behind = behind_step L setup save m made.later ready.runs old.channels (record { memory = h.memory; carried = h.carried }) c.release_behind_pages.new.self.channels c.make_step-reply.new.self.saves.saving made.matches.saving rest.channels
    c.in-Did.field-0 (subst (λ (x : StepReply). MadeStep setup save x m made.later) c.in-Did.is made.step) in
    record {
      later = made.later;
      step = made.step;
      matches = record { front = subst (λ (f : Front). FrontMatches f made.later) (sym rest.front) made.matches; memory = behind.memory; carried = behind.carried };
      reaches = subst (λ (f : Front). ReachesStore (lines_of_module L old) m.store made.later.store (g.D.SaveDevice.state c.args.device.now) f.saves (g.D.SaveDevice.state c.make_step-reply.new.device)) (sym rest.front) made.reaches;
    }

pub returns-in_default : goal.returns-in_default
returns-in_default g c =
    let e = c.make_step-reply.ensures in
    record {
      made = λ m save ready h.
          let L = g.K.ChannelPort in let old = c.args.self.now in let setup = setup_of L old in
          let made = e.made (shape_of L old.channels) c.repeats-repeats.ensures m save ready h.front in
          let behind = behind_others L setup save m made.later ready.runs old.channels (record { memory = h.memory; carried = h.carried }) c.make_step-reply.result made.step c.in_default.not-Fault c.in_default.not-Did in
          record { later = made.later; step = made.step; matches = record { front = made.matches; memory = behind.memory; carried = behind.carried }; reaches = made.reaches };
      call = e.call;
      saved = e.saved;
      terms = e.terms;
      issued = record { lists = refl; checked = refl };
      setup = ap (λ (t : LifeTerms). record { shape = shape_of g.K.ChannelPort c.args.self.now.channels; trail = t.trail }) e.terms;
      size = e.size (lines_of_module g.K.ChannelPort c.args.self.now) c.requires.size;
    }

pub returns-in-Fault-clause-size : goal.returns-in-Fault-clause-size
returns-in-Fault-clause-size g c =
    subst (λ (v : ChannelsView). HasSize v.shape.lines (g.D.SaveDevice.state c.make_step-reply.new.device)) (sym c.hold.ensures.held)
    (c.make_step-reply.ensures.size (lines_of_module g.K.ChannelPort c.args.self.now) c.requires.size)

pub returns-in-Did-clause-size : goal.returns-in-Did-clause-size
returns-in-Did-clause-size g c =
    subst (λ (v : ChannelsView). HasSize v.shape.lines (g.D.SaveDevice.state c.make_step-reply.new.device)) (sym c.release_behind_pages.ensures.channels.is)
    (c.make_step-reply.ensures.size (lines_of_module g.K.ChannelPort c.args.self.now) c.requires.size)
