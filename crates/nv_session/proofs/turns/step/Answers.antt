use Rattle.std.proofs.Common.{◌∙◌, ◌≡◌, subst, Result}
use Rattle.nv_session.proofs.Common.{Answers, ArmRefusal, Assembly, StepReply, assembly}
use Rattle.nv_machine.specs.declared.events.Event.TheVariants as events
use Rattle.nv_machine.specs.declared.events.Reply.TheVariants as replies
use Rattle.nv_machine.specs.declared.events.StepReply.TheVariants as step
use Rattle.nv_session.proofs.Stepping.{none_ran, then_begun, then_refused, then_stepped, one_step}
use Rattle.nv_session.proofs.turns.step.Goals as goal

pub returns-in-Ok-clause-comes : goal.returns-in-Ok-clause-comes
returns-in-Ok-clause-comes g c =
    let L = g.K.ChannelPort in let S = g.D.SaveDevice in let E = g.E.Energy in
    let old : Assembly L = assembly c.args.running.now (S.state c.args.device.now) (E.gauge c.args.energy.now) in
    let asked : Assembly L = assembly c.save_step.new.self (S.state c.save_step.new.device) (E.gauge c.save_step.new.energy) in
    let begun : Assembly L = assembly c.save_begin.new.self asked.device asked.gauge in
    let new : Assembly L = assembly c.save_step-in-Ok.new.self (S.state c.save_step-in-Ok.new.device) (E.gauge c.save_step-in-Ok.new.energy) in
    then_stepped L c.save_step-in-Ok.result old begun new (c.save_begin.ensures.setup ∙ c.save_step.ensures.setup)
    (then_begun L old asked begun c.save_step.ensures.setup
    (none_ran L old asked (subst (λ (reply : StepReply). Answers L events.SaveStep (replies.SaveStep reply) old asked) c.in-NoSave.is c.save_step.ensures.answers))
    (subst (λ (result : Result (Unit {0}) ArmRefusal). Answers L events.SaveBegin (replies.SaveBegin result) asked begun) c.in-Ok.is (c.save_begin.ensures.answers asked.device asked.gauge)))
    c.save_step-in-Ok.ensures.answers

pub returns-in-Err-clause-comes : goal.returns-in-Err-clause-comes
returns-in-Err-clause-comes g c =
    let L = g.K.ChannelPort in let S = g.D.SaveDevice in let E = g.E.Energy in
    let old : Assembly L = assembly c.args.running.now (S.state c.args.device.now) (E.gauge c.args.energy.now) in
    let asked : Assembly L = assembly c.save_step.new.self (S.state c.save_step.new.device) (E.gauge c.save_step.new.energy) in
    let begun : Assembly L = assembly c.save_begin.new.self asked.device asked.gauge in
    then_refused L c.in-Err.refusal old asked begun c.save_step.ensures.setup
    (none_ran L old asked (subst (λ (reply : StepReply). Answers L events.SaveStep (replies.SaveStep reply) old asked) c.in-NoSave.is c.save_step.ensures.answers))
    (subst (λ (result : Result (Unit {0}) ArmRefusal). Answers L events.SaveBegin (replies.SaveBegin result) asked begun) c.in-Err.is (c.save_begin.ensures.answers asked.device asked.gauge))

pub returns-in_default : goal.returns-in_default
returns-in_default g c =
    let L = g.K.ChannelPort in let S = g.D.SaveDevice in let E = g.E.Energy in
    let ran : (c.save_step.result ≡ step.NoSave → ⊥) = search c.in_default in
    record {
      comes = one_step L c.save_step.result (assembly c.args.running.now (S.state c.args.device.now) (E.gauge c.args.energy.now))
          (assembly c.save_step.new.self (S.state c.save_step.new.device) (E.gauge c.save_step.new.energy)) ran c.save_step.ensures.answers;
      setup = c.save_step.ensures.setup;
      size = c.save_step.ensures.size;
    }
