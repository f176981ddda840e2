use Rattle.energy_budget.specs.Meter.{meter_gauge}
use Rattle.nv_session.proofs.Common.{assembly}
use Rattle.nv_machine.specs.declared.events.Event.TheVariants as events
use Rattle.nv_machine.specs.declared.events.Reply.TheVariants as replies
use Rattle.live_store.proofs.Turns.{goes_once}
use Rattle.live_store.proofs.life.Life.arm.Goals as goal

pub returns-clause-goes : goal.returns-clause-goes
returns-clause-goes g c =
    let it = c.args.self.now in let state = g.D.SaveDevice.state in
    goes_once g.K.ChannelPort events.Arm (replies.Arm c.arm.result) (assembly it.running (state it.device) (meter_gauge it.gauge))
    (assembly c.arm.new.self (state c.arm.new.device) (meter_gauge c.arm.new.energy)) c.arm.ensures.answers c.arm.ensures.setup
