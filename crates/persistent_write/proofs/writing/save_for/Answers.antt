use Rattle.std.proofs.Common.{ap, subst, Result}
use Rattle.arm_state.specs.declared.refusal.ArmRefusal.{ArmRefusal}
use Rattle.nv_machine.specs.declared.events.StepReply.{StepReply}
use Rattle.notice_book.specs.declared.entry.Persisted.{Persisted}
use Rattle.module_core.specs.Stands.{Assembly, assembly}
use Rattle.nv_session.specs.Coming.{Comes}
use Rattle.nv_session.specs.SaveTurns.{MakesSave}
use Rattle.persistent_write.proofs.Persisting.{not_begun_for, not_saved_for, saved_for}
use Rattle.persistent_write.proofs.writing.save_for.Goals as goal

pub returns-in-Some-clause-comes : goal.returns-in-Some-clause-comes
returns-in-Some-clause-comes g c =
    let L = g.K.ChannelPort in let S = g.D.SaveDevice in let E = g.E.Energy in
    let old : Assembly L = assembly c.args.running.now (S.state c.args.device.now) (E.gauge c.args.energy.now) in
    let new : Assembly L = assembly c.save.new.running (S.state c.save.new.device) (E.gauge c.save.new.energy) in
    saved_for L c.count-channels.result c.args.number c.in-Ok.last c.in-Some.persisted old new (ap (λ (p : Persisted). p.number) c.in-Some.ensures.told)
    (subst (λ (r : Result StepReply ArmRefusal). Comes L (MakesSave c.count-channels.result r) old new) c.in-Ok.is c.save.ensures.comes)

pub returns-in-None-clause-comes : goal.returns-in-None-clause-comes
returns-in-None-clause-comes g c =
    let L = g.K.ChannelPort in let S = g.D.SaveDevice in let E = g.E.Energy in
    let old : Assembly L = assembly c.args.running.now (S.state c.args.device.now) (E.gauge c.args.energy.now) in
    let new : Assembly L = assembly c.save.new.running (S.state c.save.new.device) (E.gauge c.save.new.energy) in
    not_saved_for L c.count-channels.result c.args.number c.in-Ok.last old new
    (subst (λ (r : Result StepReply ArmRefusal). Comes L (MakesSave c.count-channels.result r) old new) c.in-Ok.is c.save.ensures.comes)

pub returns-in-Err-clause-comes : goal.returns-in-Err-clause-comes
returns-in-Err-clause-comes g c =
    let L = g.K.ChannelPort in let S = g.D.SaveDevice in let E = g.E.Energy in
    let old : Assembly L = assembly c.args.running.now (S.state c.args.device.now) (E.gauge c.args.energy.now) in
    let new : Assembly L = assembly c.save.new.running (S.state c.save.new.device) (E.gauge c.save.new.energy) in
    not_begun_for L c.count-channels.result c.args.number c.in-Err.why old new
    (subst (λ (r : Result StepReply ArmRefusal). Comes L (MakesSave c.count-channels.result r) old new) c.in-Err.is c.save.ensures.comes)
