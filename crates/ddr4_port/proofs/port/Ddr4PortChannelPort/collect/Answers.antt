use Rattle.std.proofs.Common.{ap, sym, subst}
use Rattle.ddr4_port.proofs.Common.{Carries, ChannelState}
use Rattle.ddr4_port.proofs.Keeping.{unseen}
use Rattle.ddr4_port.proofs.Seen.{carries-seen, places_of}
use Rattle.ddr4_port.proofs.Telling.{tells-collected}
use Rattle.ddr4_port.proofs.port.Ddr4PortChannelPort.collect.Goals as goal

pub returns-clause-collected : goal.returns-clause-collected
returns-clause-collected g c =
    let did = c.collect-collected.ensures in
    rw (← c.self.view_is) (tells-collected c.self.inside.channel.value c.collect-collected.new.self c.args.ticket (rw (← c.self.view_is) at c.requires.here) (rw c.deref_mut.ensures.value at did.rest) c.collect-collected.result (rw c.deref_mut.ensures.value at did.answers))

pub returns-clause-keeps : goal.returns-clause-keeps
returns-clause-keeps g c =
    let f = g.M.LineMap.place_of c.self.inside.map.now in
    let s = c.self.inside.channel.value in
    let t = c.collect-collected.new.self in
    let rest = rw c.deref_mut.ensures.value at c.collect-collected.ensures.rest in
    rw (← c.self.view_is)
    (carries-seen f s t (ap (λ (x : ChannelState). x.checked) rest) (λ base mine carries.
    subst (λ x. Carries (places_of f s) x base mine) (sym rest) (unseen (places_of f s) s t.tickets s.serial s.requests s.hold s.phase base mine carries)))

pub returns-clause-issued : goal.returns-clause-issued
returns-clause-issued g c = rw (← c.self.view_is) (ap (λ (x : ChannelState). x.commands) (rw c.deref_mut.ensures.value at c.collect-collected.ensures.rest))
