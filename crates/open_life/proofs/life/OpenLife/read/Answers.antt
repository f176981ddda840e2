use Rattle.energy_budget.specs.Meter.{meter_gauge}
use Rattle.open_life.specs.Reads.{ReadsLine}
use Rattle.open_life.proofs.Goes.{alive_alone, goes_alone}
use Rattle.open_life.proofs.life.OpenLife.read.Goals as goal

pub returns-clause-goes : goal.returns-clause-goes
returns-clause-goes g c =
    let it = c.args.self.now in
    goes_alone g.K.ChannelPort (λ setup. ReadsLine c.args.turns setup c.args.line c.read.result) it.running c.read.new.running (g.D.SaveDevice.state it.device) (meter_gauge it.gauge) c.read.ensures.comes c.read.ensures.setup

pub invariant_of-self : goal.invariant_of-self
invariant_of-self g c =
    let L = g.K.ChannelPort in let it = c.args.self.now in let device = g.D.SaveDevice.state it.device in let gauge = meter_gauge it.gauge in
    record {
      alive = alive_alone L (λ setup. ReadsLine c.args.turns setup c.args.line c.read.result) it.profile it.running c.read.new.running device gauge gauge it.alive
          (goes_alone L (λ setup. ReadsLine c.args.turns setup c.args.line c.read.result) it.running c.read.new.running device gauge c.read.ensures.comes c.read.ensures.setup) c.read.ensures.stored.cut c.read.ensures.stored.saved;
    }
