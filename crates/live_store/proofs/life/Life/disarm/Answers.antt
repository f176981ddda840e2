use Rattle.energy_budget.specs.Meter.{meter_gauge}
use Rattle.nv_machine.specs.declared.events.Event.TheVariants as events
use Rattle.nv_machine.specs.declared.events.Reply.TheVariants as replies
use Rattle.live_store.proofs.Turns.{goes_once_alone}
use Rattle.live_store.proofs.life.Life.disarm.Goals as goal

pub returns-clause-goes : goal.returns-clause-goes
returns-clause-goes g c =
    let it = c.args.self.now in
    goes_once_alone g.K.ChannelPort (events.Disarm) (replies.Disarm c.disarm.result) it.running c.disarm.new.self (g.D.SaveDevice.state it.device) (meter_gauge it.gauge)
    c.disarm.ensures.answers c.disarm.ensures.setup
