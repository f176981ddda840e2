use Rattle.std.proofs.Common.{refl}
use Rattle.nv_session.specs.Sessions.{moment_in}
use Rattle.nv_session.proofs.Common.{Assembly, IsOneEvent, assembly, device_state, meter_gauge, session_at}
use Rattle.nv_machine.specs.declared.events.Event.TheVariants as events
use Rattle.nv_machine.specs.declared.events.Reply.TheVariants as replies
use Rattle.nv_session.proofs.Coming.{one_event}
use Rattle.nv_session.proofs.Going.{goes_on_by, lives_on, still_cut}
use Rattle.nv_session.proofs.session.Session.arm.Goals as goal

pub returns-in-Some-clause-comes : goal.returns-in-Some-clause-comes
returns-in-Some-clause-comes g c =
    let L = g.K.ChannelPort in let it = c.args.self.now in let reply = replies.Arm c.arm.result in
    let old : Assembly L = assembly c.in-Some.life (device_state it.device) (meter_gauge it.gauge) in let new : Assembly L = assembly c.arm.new.self (device_state c.arm.new.device) (meter_gauge c.arm.new.energy) in
    goes_on_by L (λ setup. IsOneEvent events.Arm reply) (moment_in it) (session_at _ new.device new.gauge) old.it new.it c.in-Some.is refl
    (one_event L events.Arm reply old new c.arm.ensures.answers) c.arm.ensures.setup

pub invariant_of-self-clause-living : goal.invariant_of-self-clause-living
invariant_of-self-clause-living g c =
    let L = g.K.ChannelPort in let it = c.args.self.now in let reply = replies.Arm c.arm.result in
    let old : Assembly L = assembly c.in-Some.life (device_state it.device) (meter_gauge it.gauge) in let new : Assembly L = assembly c.arm.new.self (device_state c.arm.new.device) (meter_gauge c.arm.new.energy) in
    lives_on L it.profile (moment_in it) old.it c.in-Some.is it.living (IsOneEvent events.Arm reply) new (one_event L events.Arm reply old new c.arm.ensures.answers) c.arm.ensures.setup
    (still_cut L it.profile (moment_in it) old.it c.in-Some.is it.living new.it c.arm.ensures.stored.cut c.arm.ensures.stored.saved) c.arm.ensures.size
