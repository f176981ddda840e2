use Rattle.std.proofs.Common.{◌∙◌, refl, subst, sym}
use Rattle.nv_session.specs.Sessions.{moment_in}
use Rattle.nv_session.proofs.Common.{Assembly, MakesOneStep, Setup, assembly, device_state, meter_gauge, session_at}
use Rattle.slot_store.specs.Slots.{HasSize}
use Rattle.nv_session.proofs.Cutting.{comes_cut, now_cut, one_step_cut}
use Rattle.nv_session.proofs.Going.{goes_on_by, lives_on}
use Rattle.nv_session.proofs.session.Session.step.Goals as goal

pub returns-in-Some-clause-comes : goal.returns-in-Some-clause-comes
returns-in-Some-clause-comes g c =
    let L = g.K.ChannelPort in let it = c.args.self.now in let life = c.cut-cut_by_step.new.self in
    let old : Assembly L = assembly c.in-Some.life (device_state it.device) (meter_gauge it.gauge) in
    let mid : Assembly L = assembly c.step-made.new.running (device_state c.step-made.new.device) (meter_gauge c.step-made.new.energy) in
    goes_on_by L (λ setup. MakesOneStep c.step-made.result) (moment_in it) (session_at _ mid.device mid.gauge) old.it life c.in-Some.is refl
    (comes_cut L (MakesOneStep c.step-made.result) old mid life (one_step_cut c.step-made.result) c.step-made.ensures.setup c.step-made.ensures.comes c.cut-cut_by_step.ensures.cuts)
    (c.cut-cut_by_step.ensures.setup ∙ c.step-made.ensures.setup)

pub invariant_of-self-clause-living : goal.invariant_of-self-clause-living
invariant_of-self-clause-living g c =
    let L = g.K.ChannelPort in let it = c.args.self.now in let life = c.cut-cut_by_step.new.self in
    let old : Assembly L = assembly c.in-Some.life (device_state it.device) (meter_gauge it.gauge) in
    let mid : Assembly L = assembly c.step-made.new.running (device_state c.step-made.new.device) (meter_gauge c.step-made.new.energy) in
    lives_on L it.profile (moment_in it) old.it c.in-Some.is it.living (MakesOneStep c.step-made.result) (assembly life mid.device mid.gauge)
    (comes_cut L (MakesOneStep c.step-made.result) old mid life (one_step_cut c.step-made.result) c.step-made.ensures.setup c.step-made.ensures.comes c.cut-cut_by_step.ensures.cuts)
    (c.cut-cut_by_step.ensures.setup ∙ c.step-made.ensures.setup)
    (now_cut L mid.it life c.cut-cut_by_step.ensures.cuts c.cut-cut_by_step.ensures.to)
    (subst (λ (s : Setup). HasSize s.shape.lines mid.device) (sym c.cut-cut_by_step.ensures.setup) c.step-made.ensures.size)
