use Rattle.nv_machine.proofs.ModeLaws.{is_armed_mode, is_disarmed}
use Rattle.nv_machine.proofs.Refusing.{rest_of, unless}
use Rattle.arm_state.specs.declared.refusal.DisarmReply.TheVariants as disarm
use Rattle.nv_machine.specs.declared.events.Event.TheVariants as events
use Rattle.nv_machine.specs.declared.events.Reply.TheVariants as replies
use Rattle.module_core.proofs.Common.{◌∙◌, ◌≡◌, Ok, is_armed, refl, rules, sym, true}
use Rattle.module_core.proofs.Applying.{alone, unmoved}
use Rattle.module_core.proofs.module.Module.disarm.Goals as goal

pub returns-in-Some-clause-answers : goal.returns-in-Some-clause-answers
returns-in-Some-clause-answers g c = search (rules, unmoved)

pub returns-then-not-is_armed-clause-answers : goal.returns-then-not-is_armed-clause-answers
returns-then-not-is_armed-clause-answers g c = search (rules, unmoved, unless, rest_of, is_disarmed)

pub returns-clause-answers : goal.returns-clause-answers
returns-clause-answers g c = λ device gauge.
    alone g.K.ChannelPort events.Disarm (replies.Disarm (Ok disarm.Disarming)) c.args.self.now c.begin_disarming.new.self device gauge gauge c.begin_disarming.ensures.setup
    (λ m h.
    let f = c.begin_disarming.ensures.step m h in let on : is_armed c.args.self.now.front.mode ≡ true = cc in
    record { later = f.later; step = (refl, (sym h.front.mode ∙ is_armed_mode c.args.self.now.front.mode on, f.step)); matches = f.matches; moves = f.moves }) c.begin_disarming.ensures.saved refl (λ m h. tt) c.begin_disarming.ensures.issued
