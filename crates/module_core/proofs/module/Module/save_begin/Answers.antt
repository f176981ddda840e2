use Rattle.arm_state.specs.Refusals.{save_refusal}
use Rattle.nv_machine.specs.declared.events.Event.TheVariants as events
use Rattle.nv_machine.specs.declared.events.Reply.TheVariants as replies
use Rattle.module_core.proofs.Common.{◌∙◌, Err, Ok, ap, refl, saves_of, sym}
use Rattle.module_core.proofs.Applying.{alone, unissued, unmoved}
use Rattle.module_core.proofs.module.Module.save_begin.Goals as goal

pub returns-in-Some-clause-answers : goal.returns-in-Some-clause-answers
returns-in-Some-clause-answers g c = λ device gauge.
    unmoved g.K.ChannelPort events.SaveBegin (replies.SaveBegin (Err c.in-Some.refusal)) c.args.self.now device gauge (λ m h. (refl, (ap (λ mode. save_refusal mode (saves_of m)) (sym h.front.mode) ∙ ap (save_refusal c.args.self.now.front.mode) (sym (c.save_state.ensures.state m h)) ∙ sym c.save_refusal.ensures ∙ c.in-Some.is, refl))) refl refl (λ m h. tt) (unissued g.K.ChannelPort c.args.self.now.channels)

pub returns-clause-answers : goal.returns-clause-answers
returns-clause-answers g c = λ device gauge.
    alone g.K.ChannelPort events.SaveBegin (replies.SaveBegin (Ok tt)) c.args.self.now c.begin.new.self device gauge gauge c.begin.ensures.setup
    (λ m h. let f = c.begin.ensures.step m h in record { later = f.later; step = (refl, (ap (λ mode. save_refusal mode (saves_of m)) (sym h.front.mode) ∙ ap (save_refusal c.args.self.now.front.mode) (sym (c.save_state.ensures.state m h)) ∙ sym c.save_refusal.ensures ∙ c.in_default.is, f.step)); matches = f.matches; moves = f.moves }) c.begin.ensures.saved refl (λ m h. tt) c.begin.ensures.issued
