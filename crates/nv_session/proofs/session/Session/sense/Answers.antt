use Rattle.std.proofs.Common.{refl, Some, subst, sym}
use Rattle.nv_session.specs.Sessions.{moment_in}
use Rattle.nv_session.proofs.Common.{GoesOnBy, IsOneEvent, Reply, assembly, device_state, meter_gauge, session_at, set_to}
use Rattle.energy_budget.specs.Gauge.{Gauge}
use Rattle.nv_machine.specs.declared.events.Event.TheVariants as events
use Rattle.nv_machine.specs.declared.events.Reply.TheVariants as replies
use Rattle.nv_session.proofs.Coming.{one_event}
use Rattle.energy_budget.specs.Charging.{RisesTo}
use Rattle.nv_session.proofs.Going.{charged_living, goes_on_by, lives_on_alone, still_cut}
use Rattle.nv_session.proofs.SessionLives.{set_rises}
use Rattle.nv_session.proofs.session.Session.sense.Goals as goal

pub returns-in-Some-clause-comes : goal.returns-in-Some-clause-comes
returns-in-Some-clause-comes g c = λ device.
    let L = g.K.ChannelPort in let it = c.args.self.now in let life = c.in-Some.life in let read = c.sense-reading in let reply : Reply = replies.Sense read.result in
    let set : Gauge = meter_gauge c.set.new.self in let gauge : Gauge = meter_gauge read.new.energy in let was : Gauge = set_to c.args.level (meter_gauge it.gauge) in
    subst (λ (set : Gauge). GoesOnBy L (λ setup. IsOneEvent events.Sense reply) (session_at it.life device set) (session_at (Some read.new.self) device gauge)) {y = was} c.set.ensures.gauge
    (goes_on_by L (λ setup. IsOneEvent events.Sense reply) (session_at it.life device set) (session_at (Some read.new.self) device gauge) life read.new.self c.in-Some.is refl
    (one_event L events.Sense reply (assembly life device set) (assembly read.new.self device gauge) (read.ensures.answers device)) read.ensures.setup)

pub invariant_of-self-clause-living : goal.invariant_of-self-clause-living
invariant_of-self-clause-living g c =
    let L = g.K.ChannelPort in let it = c.args.self.now in let read = c.sense-reading in let reply : Reply = replies.Sense read.result in let device = device_state it.device in let was : Gauge = set_to c.args.level (meter_gauge it.gauge) in
    let old = assembly c.in-Some.life device (meter_gauge c.set.new.self) in let new = assembly read.new.self device (meter_gauge read.new.energy) in
    lives_on_alone L it.profile (session_at it.life device old.gauge) old.it c.in-Some.is
    (charged_living L it.profile (moment_in it) old.gauge (subst (RisesTo (meter_gauge it.gauge)) {x = was} (sym {b = was} c.set.ensures.gauge) (set_rises c.args.level (meter_gauge it.gauge))) it.living)
    (IsOneEvent events.Sense reply) new (one_event L events.Sense reply old new (read.ensures.answers device)) read.ensures.setup
    (still_cut L it.profile (moment_in it) old.it c.in-Some.is it.living new.it read.ensures.stored.cut read.ensures.stored.saved) refl
