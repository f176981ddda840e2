use Rattle.nv_machine.proofs.GuardLaws.{for_none}
use Rattle.module_core.proofs.Common.{assembly, refl}
use Rattle.module_core.proofs.ConcludedLosses.{is_dark, is_fault, is_saved}
use Rattle.module_core.proofs.module.Module.conclude.Goals as goal

pub returns-in-Ok-clause-concludes : goal.returns-in-Ok-clause-concludes
returns-in-Ok-clause-concludes g c = λ order old begun b h covers.
    let D = g.D.SaveDevice in let E = g.E.Energy in let e = c.close.ensures.same in
    is_saved g.K.ChannelPort order old begun (assembly c.args.self.now (D.state c.args.device.now) (E.gauge c.args.energy.now)) (assembly _ (D.state c.close.new.device) (E.gauge c.close.new.energy)) c.args.drained b h
    (record { terms = e.numbers.terms; accepted = e.numbers.accepted; persisted = e.numbers.persisted }) e.reading c.close.ensures.keeps c.close.ensures.channels c.close.ensures.setup refl refl c.in-Ok.ensures.paid covers (c.in-Ok.ensures.closes order begun h)

pub returns-in-Err-Refused-clause-concludes : goal.returns-in-Err-Refused-clause-concludes
returns-in-Err-Refused-clause-concludes g c = λ order old begun b h covers.
    let D = g.D.SaveDevice in let E = g.E.Energy in let e = c.close.ensures.same in
    is_dark g.K.ChannelPort order old begun (assembly c.args.self.now (D.state c.args.device.now) (E.gauge c.args.energy.now)) (assembly c.close.new.self (D.state c.close.new.device) (E.gauge c.close.new.energy)) c.args.drained b h
    e.numbers e.reading c.close.ensures.keeps c.close.ensures.channels c.close.ensures.setup e.mode e.saved c.in-Err-Refused.field-0 c.in-Err-Refused.field-0-is (c.in-Err-Refused.ensures.closes order begun h)

pub returns-in-Err-Fault-clause-concludes : goal.returns-in-Err-Fault-clause-concludes
returns-in-Err-Fault-clause-concludes g c = λ order old begun b h covers.
    let D = g.D.SaveDevice in let E = g.E.Energy in let e = c.close.ensures.same in
    is_fault g.K.ChannelPort order old begun (assembly c.args.self.now (D.state c.args.device.now) (E.gauge c.args.energy.now)) (assembly c.close.new.self (D.state c.close.new.device) (E.gauge c.close.new.energy)) c.args.drained b h
    e.numbers e.reading c.close.ensures.keeps c.close.ensures.channels c.close.ensures.setup e.mode e.saved c.in-Err-Fault.field-0 (c.in-Err-Fault.ensures.fault c.in-Err-Fault.field-0-is) c.in-Err-Fault.field-0-is (c.in-Err-Fault.ensures.closes order begun h)

pub invariant_of-self-clause-making : goal.invariant_of-self-clause-making
invariant_of-self-clause-making g c = for_none c.close.new.self.front.saves.saving _ c.close.ensures.none
