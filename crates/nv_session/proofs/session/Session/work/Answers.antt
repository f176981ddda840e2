use Rattle.std.proofs.Common.{refl}
use Rattle.nv_session.specs.Sessions.{moment_in}
use Rattle.nv_session.proofs.Common.{Event, IsOneEvent, IsWork, Reply, assembly, device_state, meter_gauge}
use Rattle.nv_machine.specs.declared.events.Event.TheVariants as events
use Rattle.nv_machine.specs.declared.events.Reply.TheVariants as replies
use Rattle.nv_session.proofs.Coming.{comes_retold, one_event_alone}
use Rattle.nv_session.proofs.Going.{goes_on_alone, lives_on_alone, still_cut}
use Rattle.nv_session.proofs.session.Session.work.Goals as goal

pub returns-in-Some-clause-comes : goal.returns-in-Some-clause-comes
returns-in-Some-clause-comes g c =
    let L = g.K.ChannelPort in let it = c.in-Some.life in let new = c.work.new.self in let channel = c.args.channel in
    let event : Event = events.Work channel in let reply : Reply = replies.Work c.work.result in
    goes_on_alone L (λ setup. IsWork channel c.command_of.result) c.args.self.now.life it new c.in-Some.is
    (λ device gauge.
    comes_retold L (IsOneEvent event reply) (IsWork channel c.command_of.result) (assembly it device gauge) (assembly new device gauge)
    (one_event_alone L event reply it new c.work.ensures.answers device gauge)
    (λ es rs m n told. record { done = c.work.result; is = c.command_of.ensures; one = told }))
    c.work.ensures.setup

pub invariant_of-self-clause-living : goal.invariant_of-self-clause-living
invariant_of-self-clause-living g c =
    let L = g.K.ChannelPort in let it = c.args.self.now in let event : Event = events.Work c.args.channel in let reply : Reply = replies.Work c.work.result in
    let device = device_state it.device in let gauge = meter_gauge it.gauge in
    lives_on_alone L it.profile (moment_in it) c.in-Some.life c.in-Some.is it.living (IsOneEvent event reply) (assembly c.work.new.self device gauge)
    (one_event_alone L event reply c.in-Some.life c.work.new.self c.work.ensures.answers device gauge) c.work.ensures.setup
    (still_cut L it.profile (moment_in it) c.in-Some.life c.in-Some.is it.living c.work.new.self c.work.ensures.stored.cut c.work.ensures.stored.saved) refl
