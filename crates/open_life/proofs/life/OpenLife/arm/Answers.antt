use Rattle.energy_budget.specs.Meter.{meter_gauge}
use Rattle.nv_machine.specs.declared.events.Event.TheVariants as events
use Rattle.nv_machine.specs.declared.events.Reply.TheVariants as replies
use Rattle.nv_session.proofs.Common.{Assembly, IsOneEvent, assembly}
use Rattle.open_life.proofs.Goes.{alive_on, goes_once, still_cut}
use Rattle.open_life.proofs.life.OpenLife.arm.Goals as goal

pub arm-requires : goal.arm-requires
arm-requires g c = c.args.self.now.alive.size

pub returns-clause-goes : goal.returns-clause-goes
returns-clause-goes g c =
    let it = c.args.self.now in let state = g.D.SaveDevice.state in
    goes_once g.K.ChannelPort events.Arm (replies.Arm c.arm.result) (assembly it.running (state it.device) (meter_gauge it.gauge))
    (assembly c.arm.new.self (state c.arm.new.device) (meter_gauge c.arm.new.energy)) c.arm.ensures.answers c.arm.ensures.setup

pub invariant_of-self : goal.invariant_of-self
invariant_of-self g c =
    let L = g.K.ChannelPort in let it = c.args.self.now in let state = g.D.SaveDevice.state in
    let old : Assembly L = assembly it.running (state it.device) (meter_gauge it.gauge) in
    let new : Assembly L = assembly c.arm.new.self (state c.arm.new.device) (meter_gauge c.arm.new.energy) in
    record {
      alive = alive_on L (λ setup. IsOneEvent events.Arm (replies.Arm c.arm.result)) it.profile old new it.alive
          (goes_once L events.Arm (replies.Arm c.arm.result) old new c.arm.ensures.answers c.arm.ensures.setup) c.arm.ensures.size
          (still_cut L it.running c.arm.new.self c.arm.ensures.stored.cut c.arm.ensures.stored.saved it.alive.cut);
    }
