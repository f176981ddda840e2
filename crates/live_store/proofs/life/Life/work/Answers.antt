use Rattle.energy_budget.specs.Meter.{meter_gauge}
use Rattle.nv_session.proofs.Common.{IsOneEvent, IsWork}
use Rattle.nv_machine.specs.declared.events.Event.TheVariants as events
use Rattle.nv_machine.specs.declared.events.Reply.TheVariants as replies
use Rattle.nv_session.proofs.Common.{assembly}
use Rattle.live_store.proofs.Turns.{goes_once_alone, goes_retold}
use Rattle.live_store.proofs.life.Life.work.Goals as goal

pub returns-clause-goes : goal.returns-clause-goes
returns-clause-goes g c =
    let it = c.args.self.now in let L = g.K.ChannelPort in let device = g.D.SaveDevice.state it.device in let gauge = meter_gauge it.gauge in
    goes_retold L (λ setup. IsOneEvent (events.Work c.args.channel) (replies.Work c.work.result)) (λ setup. IsWork c.args.channel c.command_of.result)
    (assembly it.running device gauge) (assembly c.work.new.self device gauge)
    (λ setup es rs m n told. record { done = c.work.result; is = c.command_of.ensures; one = told })
    (goes_once_alone L (events.Work c.args.channel) (replies.Work c.work.result) it.running c.work.new.self device gauge c.work.ensures.answers c.work.ensures.setup)
