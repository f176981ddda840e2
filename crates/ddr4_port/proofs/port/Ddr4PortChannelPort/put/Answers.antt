use Rattle.chan_core.specs.State.{ChannelState}
use Rattle.std.proofs.Common.{ap}
use Rattle.ddr4_port.proofs.Putting.{above-there}
use Rattle.ddr4_port.proofs.Seen.{put-carries, put-view}
use Rattle.ddr4_port.proofs.Standing.{right-kept}
use Rattle.ddr4_port.proofs.port.Ddr4PortChannelPort.put.Goals as goal

pub put_at-requires-clause-above : goal.put_at-requires-clause-above
put_at-requires-clause-above g c = rw c.deref_mut.ensures.value (above-there c.self.inside.channel.value.channel c.args.number c.self.inside.channel.value.writes (rw (← c.self.view_is) at c.requires.above))

pub invariant_of-self : goal.invariant_of-self
invariant_of-self g c =
    let rest = rw c.deref_mut.ensures.value at c.put_at.ensures.rest in
    right-kept (g.M.LineMap.is_lawful c.self.inside.map.now) (g.M.LineMap.geometry_of c.self.inside.map.now) (g.M.LineMap.place_of c.self.inside.map.now) c.self.inside.channel.value c.put_at.new.self
    (ap (λ (x : ChannelState). x.checked) rest) (rw c.deref.ensures at c.always.ensures) c.self.inside.stage
    (ap (λ (x : ChannelState). x.phase) rest) (ap (λ (x : ChannelState). x.commands) rest) (ap (λ (x : ChannelState). x.tickets) rest) c.self.invariant

pub returns-clause-puts : goal.returns-clause-puts
returns-clause-puts g c =
    rw (← c.self.view_is)
    (put-view (g.M.LineMap.place_of c.self.inside.map.now) c.self.inside.stage c.self.inside.channel.value c.put_at.new.self c.args.number c.args.write c.args.place (rw c.deref_mut.ensures.value at c.in-Ok.ensures.adds))

pub returns-clause-carries : goal.returns-clause-carries
returns-clause-carries g c =
    rw (← c.self.view_is)
    (put-carries (g.M.LineMap.place_of c.self.inside.map.now) c.self.inside.stage c.self.inside.channel.value c.self.invariant.1 c.put_at.new.self c.args.number c.args.write c.args.place (rw (← c.self.view_is) at c.requires.line) (rw (← c.self.view_is) at c.requires.place)
    (rw (← c.self.view_is) at c.requires.here) (rw (← c.self.view_is) at c.requires.above) (rw c.deref_mut.ensures.value at c.in-Ok.ensures.adds) (rw c.deref_mut.ensures.value at c.in-Ok.ensures.memory))

pub returns-clause-issued : goal.returns-clause-issued
returns-clause-issued g c = rw (← c.self.view_is) (ap (λ (x : ChannelState). x.commands) (rw c.deref_mut.ensures.value at c.put_at.ensures.rest))
