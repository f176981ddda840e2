use Rattle.std.proofs.Common.{ap, sym, subst}
use Rattle.ddr4_port.proofs.Common.{AnswersGet, Carries, ChannelState, Ok}
use Rattle.ddr4_port.proofs.Keeping.{unseen}
use Rattle.ddr4_port.proofs.Seen.{carries-seen, get-tells, places_of}
use Rattle.ddr4_port.proofs.port.Ddr4PortChannelPort.get.Goals as goal

pub returns-clause-got : goal.returns-clause-got
returns-clause-got g c =
    rw (← c.self.view_is)
    (get-tells (g.M.LineMap.place_of c.self.inside.map.now) c.self.inside.stage c.self.inside.channel.value c.self.invariant.1 c.get_at.new.self c.args.line c.args.at c.args.place c.in-Ok.got (rw (← c.self.view_is) at c.requires.line) (rw (← c.self.view_is) at c.requires.place)
    (rw (← c.self.view_is) at c.requires.here) (rw c.deref_mut.ensures.value at c.in-Ok.ensures.rest) (subst (λ (x : ChannelState). AnswersGet x c.args.place c.args.line c.args.at (Ok c.in-Ok.got) c.get_at.new.self) c.deref_mut.ensures.value c.in-Ok.ensures.answers))

pub returns-clause-keeps : goal.returns-clause-keeps
returns-clause-keeps g c =
    let f = g.M.LineMap.place_of c.self.inside.map.now in
    let s = c.self.inside.channel.value in
    let t = c.get_at.new.self in
    let rest = rw c.deref_mut.ensures.value at c.get_at.ensures.rest in
    rw (← c.self.view_is)
    (carries-seen f s t (ap (λ (x : ChannelState). x.checked) rest) (λ base mine carries.
    subst (λ x. Carries (places_of f s) x base mine) (sym rest) (unseen (places_of f s) s t.tickets t.serial t.requests s.hold s.phase base mine carries)))

pub returns-clause-issued : goal.returns-clause-issued
returns-clause-issued g c = rw (← c.self.view_is) (ap (λ (x : ChannelState). x.commands) (rw c.deref_mut.ensures.value at c.get_at.ensures.rest))
