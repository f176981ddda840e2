use Rattle.std.proofs.Common.{subst}
use Rattle.energy_budget.specs.Gauge.{Gauge}
use Rattle.energy_budget.specs.Meter.{meter_gauge}
use Rattle.nv_session.proofs.Common.{IsOneEvent, assembly, set_to}
use Rattle.nv_machine.specs.declared.events.Event.TheVariants as events
use Rattle.nv_machine.specs.declared.events.Reply.TheVariants as replies
use Rattle.live_store.specs.Lives.{GoesTo}
use Rattle.live_store.proofs.Turns.{goes_once}
use Rattle.live_store.proofs.life.Life.sense.Goals as goal

pub returns-clause-goes : goal.returns-clause-goes
returns-clause-goes g c =
    let it = c.args.self.now in let L = g.K.ChannelPort in let device = g.D.SaveDevice.state it.device in let reply = replies.Sense c.sense.result in
    let was : Gauge = set_to c.args.level (meter_gauge it.gauge) in let new = assembly c.sense.new.self device (meter_gauge c.sense.new.energy) in
    subst (λ (set : Gauge). GoesTo L (λ setup. IsOneEvent events.Sense reply) (assembly it.running device set) new) {y = was} c.set.ensures.gauge
    (goes_once L events.Sense reply (assembly it.running device (meter_gauge c.set.new.self)) new (c.sense.ensures.answers device) c.sense.ensures.setup)
