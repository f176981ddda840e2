use Rattle.std.proofs.Common.{◌∙◌}
use Rattle.energy_budget.specs.Meter.{meter_gauge}
use Rattle.nv_session.proofs.Common.{Assembly, MakesOneStep, assembly}
use Rattle.nv_session.proofs.Cutting.{comes_cut, one_step_cut}
use Rattle.live_store.proofs.life.Life.step.Goals as goal

pub returns-clause-goes : goal.returns-clause-goes
returns-clause-goes g c =
    let L = g.K.ChannelPort in let it = c.args.self.now in let state = g.D.SaveDevice.state in let made = c.step-made in let later = c.cut-cut_by_step.new.self in
    let old : Assembly L = assembly it.running (state it.device) (meter_gauge it.gauge) in
    let mid : Assembly L = assembly made.new.running (state made.new.device) (meter_gauge made.new.energy) in
    record {
      comes = comes_cut L (MakesOneStep made.result) old mid later (one_step_cut made.result) made.ensures.setup made.ensures.comes c.cut-cut_by_step.ensures.cuts;
      setup = c.cut-cut_by_step.ensures.setup ∙ made.ensures.setup;
    }
