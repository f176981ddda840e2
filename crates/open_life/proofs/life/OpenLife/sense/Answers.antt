use Rattle.energy_budget.specs.Meter.{meter_gauge}
use Rattle.nv_machine.specs.declared.events.Event.TheVariants as events
use Rattle.nv_machine.specs.declared.events.Reply.TheVariants as replies
use Rattle.nv_session.proofs.Common.{IsOneEvent, assembly}
use Rattle.open_life.proofs.Goes.{alive_alone, goes_once}
use Rattle.open_life.proofs.life.OpenLife.sense.Goals as goal

pub returns-clause-goes : goal.returns-clause-goes
returns-clause-goes g c =
    let it = c.args.self.now in let device = g.D.SaveDevice.state it.device in
    goes_once g.K.ChannelPort events.Sense (replies.Sense c.sense.result) (assembly it.running device (meter_gauge it.gauge)) (assembly c.sense.new.self device (meter_gauge c.sense.new.energy))
    (c.sense.ensures.answers device) c.sense.ensures.setup

pub invariant_of-self : goal.invariant_of-self
invariant_of-self g c =
    let L = g.K.ChannelPort in let it = c.args.self.now in let device = g.D.SaveDevice.state it.device in
    record {
      alive = alive_alone L (λ setup. IsOneEvent events.Sense (replies.Sense c.sense.result)) it.profile it.running c.sense.new.self device (meter_gauge it.gauge) (meter_gauge c.sense.new.energy) it.alive
          (goes_once L events.Sense (replies.Sense c.sense.result) (assembly it.running device (meter_gauge it.gauge)) (assembly c.sense.new.self device (meter_gauge c.sense.new.energy))
          (c.sense.ensures.answers device) c.sense.ensures.setup) c.sense.ensures.stored.cut c.sense.ensures.stored.saved;
    }
