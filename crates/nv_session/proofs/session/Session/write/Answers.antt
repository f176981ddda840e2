use Rattle.std.proofs.Common.{refl}
use Rattle.nv_session.specs.Sessions.{moment_in}
use Rattle.nv_session.proofs.Common.{Event, IsOneEvent, Reply, assembly, device_state, meter_gauge}
use Rattle.nv_machine.specs.declared.events.Event.TheVariants as events
use Rattle.nv_machine.specs.declared.events.Reply.TheVariants as replies
use Rattle.nv_session.proofs.Coming.{one_event_alone}
use Rattle.nv_session.proofs.Going.{goes_on_alone, lives_on_alone, still_cut}
use Rattle.nv_session.proofs.session.Session.write.Goals as goal

pub returns-in-Some-clause-comes : goal.returns-in-Some-clause-comes
returns-in-Some-clause-comes g c =
    let L = g.K.ChannelPort in let event : Event = events.Write c.args.write in let reply : Reply = replies.Write c.write.result in
    goes_on_alone L (λ setup. IsOneEvent event reply) c.args.self.now.life c.in-Some.life c.write.new.self c.in-Some.is
    (one_event_alone L event reply c.in-Some.life c.write.new.self c.write.ensures.answers) c.write.ensures.setup

pub invariant_of-self-clause-living : goal.invariant_of-self-clause-living
invariant_of-self-clause-living g c =
    let L = g.K.ChannelPort in let it = c.args.self.now in let event : Event = events.Write c.args.write in let reply : Reply = replies.Write c.write.result in
    let device = device_state it.device in let gauge = meter_gauge it.gauge in
    lives_on_alone L it.profile (moment_in it) c.in-Some.life c.in-Some.is it.living (IsOneEvent event reply) (assembly c.write.new.self device gauge)
    (one_event_alone L event reply c.in-Some.life c.write.new.self c.write.ensures.answers device gauge) c.write.ensures.setup
    (still_cut L it.profile (moment_in it) c.in-Some.life c.in-Some.is it.living c.write.new.self c.write.ensures.stored.cut c.write.ensures.stored.saved) refl
