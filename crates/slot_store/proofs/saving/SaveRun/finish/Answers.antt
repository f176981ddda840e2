use Rattle.slot_store.specs.Finishing.{steps_to_come}
use Rattle.slot_store.proofs.Common.{ℕ, ◌+◌, ◌<◌, ◌≡◌, arith, subst, suc}
use Rattle.slot_store.proofs.StepsMade.{HasMade, ends_done, ends_failed, ends_refused, one_more_made, nothing_made}
use Rattle.slot_store.proofs.saving.SaveRun.finish.Goals as goal

pub loop-made-init : goal.loop-made-init
loop-made-init g c = record {
  end = c.steps_left-made-end.ensures;
  made = nothing_made g.S.SaveSource c.args.source.now c.args.self.now (g.D.SaveDevice.state c.args.device.now) c.requires.size;
}

pub returns-in_default : goal.returns-in_default
returns-in_default g c =
    let D = g.D.SaveDevice in let l = c.loop-made in
    let some : 0 < steps_to_come l.self = omega (arith, l.invariant.made.stands.left, l.invariant.end, c.loop-made-test.true) in
    ends_refused g.S.SaveSource c.args.source.now c.args.self.now (D.state c.args.device.now) c.requires.size l._made l.source l.self (D.state l.device) l.invariant.made some c.ask.new.self c.ask.ensures.same
    c.next-step.result c.next-step.ensures c.in_default.field-0 c.in_default.ensures.asked

pub returns-in_default-step : goal.returns-in_default-step
returns-in_default-step g c =
    let D = g.D.SaveDevice in let l = c.loop-made in let told = c.in_default-step.ensures in
    let some : 0 < steps_to_come l.self = omega (arith, l.invariant.made.stands.left, l.invariant.end, c.loop-made-test.true) in
    ends_failed g.S.SaveSource c.args.source.now c.args.self.now (D.state c.args.device.now) c.requires.size l._made l.source l.self (D.state l.device) l.invariant.made some c.ask.new.self c.ask.ensures.same
    c.next-step.result c.next-step.ensures c.in-Ok.ensures.asked c.page_for-page.result.now c.page_for-page.ensures c.step.new.self (D.state c.step.new.device)
    (record { call = told.call; outside = told.outside; next = told.next; has = told.has; saving = told.saving; any_moment = told.any_moment })

pub loop-made-preserved : goal.loop-made-preserved
loop-made-preserved g c =
    let D = g.D.SaveDevice in let l = c.loop-made in let told = c.in-Ok-step.ensures in
    let some : 0 < steps_to_come l.self = omega (arith, l.invariant.made.stands.left, l.invariant.end, c.loop-made-test.true) in
    let one : suc l._made ≡ l._made + 1 = omega arith in
    record {
      end = l.invariant.end;
      made = subst (λ (n : ℕ). HasMade g.S.SaveSource c.args.source.now c.args.self.now (D.state c.args.device.now) n c.ask.new.self c.step.new.self (D.state c.step.new.device)) one
          (one_more_made g.S.SaveSource c.args.source.now c.args.self.now (D.state c.args.device.now) c.requires.size l._made l.source l.self (D.state l.device) l.invariant.made some c.ask.new.self c.ask.ensures.same
          c.next-step.result c.next-step.ensures c.in-Ok.ensures.asked c.page_for-page.result.now c.page_for-page.ensures c.step.new.self (D.state c.step.new.device)
          (record { call = told.call; outside = told.outside; next = told.next; has = told.has; saving = told.saving; any_moment = told.any_moment }));
    }

pub returns : goal.returns
returns g c =
    let D = g.D.SaveDevice in let l = c.loop-made in
    let none : steps_to_come l.self ≡ 0 = omega (arith, l.invariant.made.stands.left, l.invariant.end, c.loop-made-test.false) in
    ends_done g.S.SaveSource c.args.source.now c.args.self.now (D.state c.args.device.now) c.requires.size l._made l.source l.self (D.state l.device) l.invariant.made none
