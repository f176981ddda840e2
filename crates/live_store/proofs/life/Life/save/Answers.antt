use Rattle.std.proofs.Common.{◌∙◌, subst}
use Rattle.energy_budget.specs.Meter.{meter_gauge}
use Rattle.nv_session.proofs.Common.{Assembly, Comes, MakesSave, assembly}
use Rattle.nv_session.proofs.Cutting.{comes_cut, save_cut}
use Rattle.live_store.proofs.life.Life.save.Goals as goal

pub returns-clause-goes : goal.returns-clause-goes
returns-clause-goes g c =
    let L = g.K.ChannelPort in let it = c.args.self.now in let state = g.D.SaveDevice.state in let made = c.save-made in let later = c.cut-cut_by_save.new.self in
    let old : Assembly L = assembly it.running (state it.device) (meter_gauge it.gauge) in
    let mid : Assembly L = assembly made.new.running (state made.new.device) (meter_gauge made.new.energy) in
    record {
      comes = subst (λ (n : _). Comes L (MakesSave n made.result) old (assembly later mid.device mid.gauge)) it.has_channels
          (comes_cut L (MakesSave it.geometry.channels made.result) old mid later (save_cut it.geometry.channels made.result) made.ensures.setup made.ensures.comes c.cut-cut_by_save.ensures.cuts);
      setup = c.cut-cut_by_save.ensures.setup ∙ made.ensures.setup;
    }
