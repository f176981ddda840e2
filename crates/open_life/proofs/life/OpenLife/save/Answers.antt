use Rattle.std.proofs.Common.{ℕ, subst, sym}
use Rattle.energy_budget.specs.Meter.{meter_gauge}
use Rattle.nv_session.proofs.Common.{Assembly, Comes, MakesSave, assembly, setup_of}
use Rattle.nv_session.proofs.Cutting.{save_cut}
use Rattle.open_life.proofs.Goes.{alive_cut, goes_cut}
use Rattle.open_life.proofs.life.OpenLife.save.Goals as goal

pub save-made-requires-clause-channels : goal.save-made-requires-clause-channels
save-made-requires-clause-channels g c = sym c.args.self.now.alive.fits.channels

pub save-made-requires-clause-size : goal.save-made-requires-clause-size
save-made-requires-clause-size g c = c.args.self.now.alive.size

pub returns-clause-goes : goal.returns-clause-goes
returns-clause-goes g c =
    let L = g.K.ChannelPort in let it = c.args.self.now in let state = g.D.SaveDevice.state in let made = c.save-made in let later = c.cut-cut_by_save.new.self in
    let old : Assembly L = assembly it.running (state it.device) (meter_gauge it.gauge) in
    let mid : Assembly L = assembly made.new.running (state made.new.device) (meter_gauge made.new.energy) in
    let comes : Comes L (MakesSave (setup_of L old.it).shape.channels made.result) old mid = subst (λ (n : ℕ). Comes L (MakesSave n made.result) old mid) (sym it.alive.fits.channels) made.ensures.comes in
    goes_cut L (λ setup. MakesSave setup.shape.channels made.result) it.profile old mid later made.ensures.setup comes (save_cut (setup_of L old.it).shape.channels made.result) c.cut-cut_by_save.ensures.cuts

pub invariant_of-self : goal.invariant_of-self
invariant_of-self g c =
    let L = g.K.ChannelPort in let it = c.args.self.now in let state = g.D.SaveDevice.state in let made = c.save-made in let later = c.cut-cut_by_save.new.self in
    let old : Assembly L = assembly it.running (state it.device) (meter_gauge it.gauge) in
    let mid : Assembly L = assembly made.new.running (state made.new.device) (meter_gauge made.new.energy) in
    let comes : Comes L (MakesSave (setup_of L old.it).shape.channels made.result) old mid = subst (λ (n : ℕ). Comes L (MakesSave n made.result) old mid) (sym it.alive.fits.channels) made.ensures.comes in
    record { alive = alive_cut L (λ setup. MakesSave setup.shape.channels made.result) it.profile old mid later made.ensures.setup comes (save_cut (setup_of L old.it).shape.channels made.result) c.cut-cut_by_save.ensures.cuts it.alive made.ensures.size c.cut-cut_by_save.ensures.to }
