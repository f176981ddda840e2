use Rattle.std.proofs.Common.{◌∙◌, ap, subst, Result}
use Rattle.arm_state.specs.declared.refusal.WriteRefusal.{WriteRefusal}
use Rattle.nv_machine.specs.declared.events.Accepted.{Accepted}
use Rattle.nv_machine.specs.declared.events.Event.TheVariants as events
use Rattle.nv_machine.specs.declared.events.Reply.TheVariants as replies
use Rattle.notice_book.specs.declared.entry.Persisted.{Persisted}
use Rattle.module_core.specs.Stands.{Answers, Assembly, assembly}
use Rattle.nv_session.specs.Coming.{Comes}
use Rattle.persistent_write.specs.Persisting.{HasWritten}
use Rattle.persistent_write.proofs.Persisting.{at_once, behind_a_save, has_written, still_written, was_refused}
use Rattle.persistent_write.proofs.writing.write_persistent.Goals as goal

pub returns-in-Err-clause-comes : goal.returns-in-Err-clause-comes
returns-in-Err-clause-comes g c =
    let L = g.K.ChannelPort in let S = g.D.SaveDevice in let E = g.E.Energy in
    let old : Assembly L = assembly c.args.running.now (S.state c.args.device.now) (E.gauge c.args.energy.now) in
    let new : Assembly L = assembly c.write.new.self old.device old.gauge in
    was_refused L c.args.write c.in-Err.why old new
    (subst (λ (r : Result Accepted WriteRefusal). Answers L (events.Write c.args.write) (replies.Write r) old new) c.in-Err.is (c.write.ensures.answers old.device old.gauge))

pub returns-in-Some-clause-comes : goal.returns-in-Some-clause-comes
returns-in-Some-clause-comes g c =
    let L = g.K.ChannelPort in let S = g.D.SaveDevice in let E = g.E.Energy in
    let old : Assembly L = assembly c.args.running.now (S.state c.args.device.now) (E.gauge c.args.energy.now) in
    let new : Assembly L = assembly c.write.new.self old.device old.gauge in
    at_once L c.args.write c.in-Ok.accepted.number c.in-Some.persisted old new (ap (λ (p : Persisted). p.number) c.in-Some.ensures.told)
    (has_written L c.args.write c.in-Ok.accepted old new
    (subst (λ (r : Result Accepted WriteRefusal). Answers L (events.Write c.args.write) (replies.Write r) old new) c.in-Ok.is (c.write.ensures.answers old.device old.gauge)))

pub returns-then-not-is_of_an_earlier_save-clause-comes : goal.returns-then-not-is_of_an_earlier_save-clause-comes
returns-then-not-is_of_an_earlier_save-clause-comes g c =
    let L = g.K.ChannelPort in let S = g.D.SaveDevice in let E = g.E.Energy in
    let old : Assembly L = assembly c.args.running.now (S.state c.args.device.now) (E.gauge c.args.energy.now) in
    let mid : Assembly L = assembly c.write.new.self old.device old.gauge in
    let new : Assembly L = assembly c.save_for-made.new.running (S.state c.save_for-made.new.device) (E.gauge c.save_for-made.new.energy) in
    let written : Comes L (HasWritten c.args.write c.in-Ok.accepted.number) old mid = has_written L c.args.write c.in-Ok.accepted old mid
    (subst (λ (r : Result Accepted WriteRefusal). Answers L (events.Write c.args.write) (replies.Write r) old mid) c.in-Ok.is (c.write.ensures.answers old.device old.gauge)) in
    behind_a_save L c.args.write c.in-Ok.accepted.number c.save_for-made.result old mid new c.write.ensures.setup written c.save_for-made.ensures.comes

pub returns-clause-comes : goal.returns-clause-comes
returns-clause-comes g c =
    let L = g.K.ChannelPort in let S = g.D.SaveDevice in let E = g.E.Energy in
    let old : Assembly L = assembly c.args.running.now (S.state c.args.device.now) (E.gauge c.args.energy.now) in
    let mid : Assembly L = assembly c.write.new.self old.device old.gauge in
    let saved : Assembly L = assembly c.save_for-made.new.running (S.state c.save_for-made.new.device) (E.gauge c.save_for-made.new.energy) in
    let new : Assembly L = assembly c.save_for.new.running (S.state c.save_for.new.device) (E.gauge c.save_for.new.energy) in
    let written : Comes L (HasWritten c.args.write c.in-Ok.accepted.number) old mid = has_written L c.args.write c.in-Ok.accepted old mid
    (subst (λ (r : Result Accepted WriteRefusal). Answers L (events.Write c.args.write) (replies.Write r) old mid) c.in-Ok.is (c.write.ensures.answers old.device old.gauge)) in
    behind_a_save L c.args.write c.in-Ok.accepted.number c.save_for.result old saved new (c.save_for-made.ensures.setup ∙ c.write.ensures.setup)
    (still_written L c.args.write c.in-Ok.accepted.number c.save_for-made.result old mid saved c.write.ensures.setup written c.save_for-made.ensures.comes)
    c.save_for.ensures.comes
