use Rattle.energy_budget.specs.Meter.{meter_gauge}
use Rattle.nv_session.proofs.Common.{Assembly, MakesOneStep, assembly}
use Rattle.nv_session.proofs.Cutting.{one_step_cut}
use Rattle.open_life.proofs.Goes.{alive_cut, goes_cut}
use Rattle.open_life.proofs.life.OpenLife.step.Goals as goal

pub step-made-requires : goal.step-made-requires
step-made-requires g c = record { size = c.args.self.now.alive.size }

pub returns-clause-goes : goal.returns-clause-goes
returns-clause-goes g c =
    let L = g.K.ChannelPort in let it = c.args.self.now in let state = g.D.SaveDevice.state in let made = c.step-made in let later = c.cut-cut_by_step.new.self in
    let old : Assembly L = assembly it.running (state it.device) (meter_gauge it.gauge) in
    let mid : Assembly L = assembly made.new.running (state made.new.device) (meter_gauge made.new.energy) in
    goes_cut L (λ setup. MakesOneStep made.result) it.profile old mid later made.ensures.setup made.ensures.comes (one_step_cut made.result) c.cut-cut_by_step.ensures.cuts

pub invariant_of-self : goal.invariant_of-self
invariant_of-self g c =
    let L = g.K.ChannelPort in let it = c.args.self.now in let state = g.D.SaveDevice.state in let made = c.step-made in let later = c.cut-cut_by_step.new.self in
    let old : Assembly L = assembly it.running (state it.device) (meter_gauge it.gauge) in
    let mid : Assembly L = assembly made.new.running (state made.new.device) (meter_gauge made.new.energy) in
    record { alive = alive_cut L (λ setup. MakesOneStep made.result) it.profile old mid later made.ensures.setup made.ensures.comes (one_step_cut made.result) c.cut-cut_by_step.ensures.cuts it.alive made.ensures.size c.cut-cut_by_step.ensures.to }
