use Rattle.energy_budget.specs.Meter.{meter_gauge}
use Rattle.nv_session.proofs.Common.{ReadsLine}
use Rattle.live_store.proofs.Turns.{goes_alone}
use Rattle.live_store.proofs.life.Life.read.Goals as goal

pub returns-clause-goes : goal.returns-clause-goes
returns-clause-goes g c =
    let it = c.args.self.now in
    goes_alone g.K.ChannelPort (λ setup. ReadsLine setup c.args.line c.read.result) it.running c.read.new.running (g.D.SaveDevice.state it.device) (meter_gauge it.gauge)
    c.read.ensures.comes c.read.ensures.setup
