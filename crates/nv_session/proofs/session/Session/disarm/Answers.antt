use Rattle.std.proofs.Common.{refl}
use Rattle.nv_session.specs.Sessions.{moment_in}
use Rattle.nv_session.proofs.Common.{IsOneEvent, assembly, device_state, meter_gauge}
use Rattle.nv_machine.specs.declared.events.Event.TheVariants as events
use Rattle.nv_machine.specs.declared.events.Reply.TheVariants as replies
use Rattle.nv_session.proofs.Coming.{one_event_alone}
use Rattle.nv_session.proofs.Going.{goes_on_alone, lives_on_alone, still_cut}
use Rattle.nv_session.proofs.session.Session.disarm.Goals as goal

pub returns-in-Some-clause-comes : goal.returns-in-Some-clause-comes
returns-in-Some-clause-comes g c =
    let L = g.K.ChannelPort in let reply = replies.Disarm c.disarm.result in
    goes_on_alone L (λ setup. IsOneEvent events.Disarm reply) c.args.self.now.life c.in-Some.life c.disarm.new.self c.in-Some.is
    (one_event_alone L events.Disarm reply c.in-Some.life c.disarm.new.self c.disarm.ensures.answers) c.disarm.ensures.setup

pub invariant_of-self-clause-living : goal.invariant_of-self-clause-living
invariant_of-self-clause-living g c =
    let L = g.K.ChannelPort in let it = c.args.self.now in let reply = replies.Disarm c.disarm.result in
    let device = device_state it.device in let gauge = meter_gauge it.gauge in
    lives_on_alone L it.profile (moment_in it) c.in-Some.life c.in-Some.is it.living (IsOneEvent events.Disarm reply) (assembly c.disarm.new.self device gauge)
    (one_event_alone L events.Disarm reply c.in-Some.life c.disarm.new.self c.disarm.ensures.answers device gauge) c.disarm.ensures.setup
    (still_cut L it.profile (moment_in it) c.in-Some.life c.in-Some.is it.living c.disarm.new.self c.disarm.ensures.stored.cut c.disarm.ensures.stored.saved) refl
