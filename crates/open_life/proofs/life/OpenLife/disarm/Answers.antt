use Rattle.energy_budget.specs.Meter.{meter_gauge}
use Rattle.nv_machine.specs.declared.events.Event.TheVariants as events
use Rattle.nv_machine.specs.declared.events.Reply.TheVariants as replies
use Rattle.nv_session.proofs.Common.{IsOneEvent}
use Rattle.open_life.proofs.Goes.{alive_alone, goes_once_alone}
use Rattle.open_life.proofs.life.OpenLife.disarm.Goals as goal

pub returns-clause-goes : goal.returns-clause-goes
returns-clause-goes g c =
    let it = c.args.self.now in
    goes_once_alone g.K.ChannelPort events.Disarm (replies.Disarm c.disarm.result) it.running c.disarm.new.self (g.D.SaveDevice.state it.device) (meter_gauge it.gauge) c.disarm.ensures.answers c.disarm.ensures.setup

pub invariant_of-self : goal.invariant_of-self
invariant_of-self g c =
    let L = g.K.ChannelPort in let it = c.args.self.now in let device = g.D.SaveDevice.state it.device in let gauge = meter_gauge it.gauge in
    record {
      alive = alive_alone L (λ setup. IsOneEvent events.Disarm (replies.Disarm c.disarm.result)) it.profile it.running c.disarm.new.self device gauge gauge it.alive
          (goes_once_alone L events.Disarm (replies.Disarm c.disarm.result) it.running c.disarm.new.self device gauge c.disarm.ensures.answers c.disarm.ensures.setup) c.disarm.ensures.stored.cut c.disarm.ensures.stored.saved;
    }
