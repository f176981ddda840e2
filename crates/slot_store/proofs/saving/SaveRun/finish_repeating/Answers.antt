use Rattle.slot_store.specs.declared.source.BrokenOff.TheVariants as broken
use Rattle.slot_store.proofs.Common.{◌+◌, ◌≡◌, Err, ap, arith, refl, subst, suc, ℕ}
use Rattle.slot_store.proofs.Repeated.{HasFailed, ends_last, fails_again, lined, never_failed, sized}
use Rattle.slot_store.proofs.saving.SaveRun.finish_repeating.Goals as goal

pub loop-again-init : goal.loop-again-init
loop-again-init g c = never_failed g.S.SaveSource c.args.source.now c.args.self.now (g.D.SaveDevice.state c.args.device.now) c.requires.size

pub finish-requires-clause-lines : goal.finish-requires-clause-lines
finish-requires-clause-lines g c =
    let D = g.D.SaveDevice in let l = c.loop-again in
    lined g.S.SaveSource c.args.source.now c.args.self.now (D.state c.args.device.now) c.requires.size l._again l.source l.self (D.state l.device) l.invariant c.requires.lines

pub finish-requires-clause-size : goal.finish-requires-clause-size
finish-requires-clause-size g c =
    let D = g.D.SaveDevice in let l = c.loop-again in
    sized g.S.SaveSource c.args.source.now c.args.self.now (D.state c.args.device.now) c.requires.size l._again l.source l.self (D.state l.device) l.invariant

pub returns-in-Ok : goal.returns-in-Ok
returns-in-Ok g c =
    let D = g.D.SaveDevice in let l = c.loop-again in
    ends_last g.S.SaveSource c.args.source.now c.args.self.now (D.state c.args.device.now) c.requires.size l._again l.source l.self (D.state l.device) l.invariant _ c.finish.new.source c.finish.new.self (D.state c.finish.new.device) c.in-Ok.ensures
    c.args.repeats _ refl (omega (arith, c.loop-again-test.true)) (λ is. cc)

pub returns-in-Err-Refused : goal.returns-in-Err-Refused
returns-in-Err-Refused g c =
    let D = g.D.SaveDevice in let l = c.loop-again in
    ends_last g.S.SaveSource c.args.source.now c.args.self.now (D.state c.args.device.now) c.requires.size l._again l.source l.self (D.state l.device) l.invariant _ c.finish.new.source c.finish.new.self (D.state c.finish.new.device) c.in-Err-Refused.ensures
    c.args.repeats (Err broken.Refused) (ap Err c.in-Err-Refused.field-0-is) (omega (arith, c.loop-again-test.true)) (λ is. cc)

pub loop-again-preserved : goal.loop-again-preserved
loop-again-preserved g c =
    let D = g.D.SaveDevice in let l = c.loop-again in
    let one : suc l._again ≡ l._again + 1 = omega arith in
    subst (λ (n : ℕ). HasFailed g.S.SaveSource c.args.source.now c.args.self.now (D.state c.args.device.now) n c.finish.new.source c.finish.new.self (D.state c.finish.new.device)) one
    (fails_again g.S.SaveSource c.args.source.now c.args.self.now (D.state c.args.device.now) c.requires.size l._again l.source l.self (D.state l.device) l.invariant _ c.finish.new.source c.finish.new.self (D.state c.finish.new.device) c.in-Err-Fault.ensures
    (ap Err c.in-Err-Fault.field-0-is))

pub returns : goal.returns
returns g c =
    let D = g.D.SaveDevice in let l = c.loop-again in
    let end : l._again ≡ c.args.repeats = omega (arith, c.loop-again-test.false, l.auto._again-end) in
    ends_last g.S.SaveSource c.args.source.now c.args.self.now (D.state c.args.device.now) c.requires.size l._again l.source l.self (D.state l.device) l.invariant c.finish-2.result c.finish-2.new.source c.finish-2.new.self (D.state c.finish-2.new.device) c.finish-2.ensures
    c.args.repeats c.finish-2.result refl (omega (arith, end)) (λ is. end)

pub finish-requires-2-clause-lines : goal.finish-requires-2-clause-lines
finish-requires-2-clause-lines g c =
    let D = g.D.SaveDevice in let l = c.loop-again in
    lined g.S.SaveSource c.args.source.now c.args.self.now (D.state c.args.device.now) c.requires.size l._again l.source l.self (D.state l.device) l.invariant c.requires.lines

pub finish-requires-2-clause-size : goal.finish-requires-2-clause-size
finish-requires-2-clause-size g c =
    let D = g.D.SaveDevice in let l = c.loop-again in
    sized g.S.SaveSource c.args.source.now c.args.self.now (D.state c.args.device.now) c.requires.size l._again l.source l.self (D.state l.device) l.invariant
