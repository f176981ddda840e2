use Rattle.std.proofs.Common.{◌≡◌, ◌∙◌, ℕ, suc, ◌+◌, true, false, true≢false, arith, rules, sym, ap, subst, Result}
use Rattle.nv_session.proofs.Common.{ArmRefusal, Assembly, Comes, MakesOneStep, Setup, StepReply, assembly, is_underway}
use Rattle.slot_store.specs.Slots.{HasSize}
use Rattle.module_core.proofs.Applying.{same_lines}
use Rattle.nv_session.proofs.Turning.{HasMade, made_all, made_none, made_one, then_steps, then_works}
use Rattle.nv_session.proofs.turns.save.Goals as goal

pub loop-turn-init : goal.loop-turn-init
loop-turn-init g c =
    let L = g.K.ChannelPort in let S = g.D.SaveDevice in let E = g.E.Energy in
    let old : Assembly L = assembly c.args.running.now (S.state c.args.device.now) (E.gauge c.args.energy.now) in
    let new : Assembly L = assembly c.step.new.running (S.state c.step.new.device) (E.gauge c.step.new.energy) in
    record {
      size = c.step.ensures.size;
      setup = c.step.ensures.setup;
      comes = made_one L c.args.channels c.in-Ok.reply old new (subst (λ (result : Result StepReply ArmRefusal). Comes L (MakesOneStep result) old new) c.in-Ok.is c.step.ensures.comes);
    }

pub work_where_waiting-requires : goal.work_where_waiting-requires
work_where_waiting-requires g c = c.requires.channels ∙ sym (ap (λ (s : Setup). s.shape.channels) c.loop-turn.invariant.setup)

pub save_step-reply-requires : goal.save_step-reply-requires
save_step-reply-requires g c =
    let L = g.K.ChannelPort in
    record {
      size = subst (λ (n : ℕ). HasSize n (g.D.SaveDevice.state c.loop-turn.device)) (sym (same_lines L c.loop-turn.running c.work_where_waiting.new.running c.work_where_waiting.ensures.setup)) c.loop-turn.invariant.size;
    }

pub loop-turn-preserved : goal.loop-turn-preserved
loop-turn-preserved g c =
    let L = g.K.ChannelPort in let S = g.D.SaveDevice in let E = g.E.Energy in let inv = c.loop-turn.invariant in
    let old : Assembly L = assembly c.args.running.now (S.state c.args.device.now) (E.gauge c.args.energy.now) in
    let mid : Assembly L = assembly c.loop-turn.running (S.state c.loop-turn.device) (E.gauge c.loop-turn.energy) in
    let worked : Assembly L = assembly c.work_where_waiting.new.running mid.device mid.gauge in
    let new : Assembly L = assembly c.save_step-reply.new.self (S.state c.save_step-reply.new.device) (E.gauge c.save_step-reply.new.energy) in
    let one_more : suc c.loop-turn._turn ≡ c.loop-turn._turn + 1 = omega arith in
    let underway : is_underway c.loop-turn.reply ≡ true = sym c.is_underway.ensures ∙ c.if-not-is_underway.false in
    record {
      size = c.save_step-reply.ensures.size;
      setup = c.save_step-reply.ensures.setup ∙ c.work_where_waiting.ensures.setup ∙ inv.setup;
      comes = subst (λ (n : ℕ). Comes L (HasMade c.args.channels n c.save_step-reply.result) old new) one_more
          (then_steps L c.args.channels c.loop-turn._turn c.loop-turn.reply c.save_step-reply.result old worked new (c.work_where_waiting.ensures.setup ∙ inv.setup) underway
          (then_works L c.args.channels c.loop-turn._turn c.loop-turn.reply old mid worked inv.setup inv.comes (c.work_where_waiting.ensures.comes mid.device mid.gauge))
          c.save_step-reply.ensures.answers);
    }

pub returns-in-Err-clause-comes : goal.returns-in-Err-clause-comes
returns-in-Err-clause-comes g c =
    let L = g.K.ChannelPort in let S = g.D.SaveDevice in let E = g.E.Energy in
    let old : Assembly L = assembly c.args.running.now (S.state c.args.device.now) (E.gauge c.args.energy.now) in
    let new : Assembly L = assembly c.step.new.running (S.state c.step.new.device) (E.gauge c.step.new.energy) in
    made_none L c.args.channels c.in-Err.refusal old new (subst (λ (result : Result StepReply ArmRefusal). Comes L (MakesOneStep result) old new) c.in-Err.is c.step.ensures.comes)

pub returns-then-not-is_underway-clause-comes : goal.returns-then-not-is_underway-clause-comes
returns-then-not-is_underway-clause-comes g c =
    let L = g.K.ChannelPort in let S = g.D.SaveDevice in let E = g.E.Energy in
    let old : Assembly L = assembly c.args.running.now (S.state c.args.device.now) (E.gauge c.args.energy.now) in
    let new : Assembly L = assembly c.loop-turn.running (S.state c.loop-turn.device) (E.gauge c.loop-turn.energy) in
    let over : is_underway c.loop-turn.reply ≡ false = sym c.is_underway.ensures ∙ c.if-not-is_underway.true in
    made_all L c.args.channels c.loop-turn._turn c.loop-turn.reply old new (omega (arith, c.loop-turn-test.true)) (λ underway. absurd (true≢false (sym underway ∙ over))) c.loop-turn.invariant.comes

pub returns-clause-comes : goal.returns-clause-comes
returns-clause-comes g c =
    let L = g.K.ChannelPort in let S = g.D.SaveDevice in let E = g.E.Energy in
    let old : Assembly L = assembly c.args.running.now (S.state c.args.device.now) (E.gauge c.args.energy.now) in
    let new : Assembly L = assembly c.loop-turn.running (S.state c.loop-turn.device) (E.gauge c.loop-turn.energy) in
    let all : c.loop-turn._turn ≡ 4096 = search rules in
    made_all L c.args.channels c.loop-turn._turn c.loop-turn.reply old new (omega (arith, all)) (λ underway. all) c.loop-turn.invariant.comes
