use Rattle.ddr4_port.proofs.DrainCosts.{drain-covers}
use Rattle.ddr4_port.proofs.Draining.{paid-keeps}
use Rattle.ddr4_port.proofs.port.Ddr4PortChannelPort.drain_paid.Goals as goal

pub returns-clause-covers : goal.returns-clause-covers
returns-clause-covers g c =
    let right = c.self.invariant.1 in
    let awaits = right.staged.backup (rw (← c.self.view_is) at c.requires.backup) in
    rw (← c.self.view_is) (drain-covers c.args.costs.now c.self.inside.channel.value awaits.can right.channel.contents (rw (← c.self.view_is) at c.requires.reckoned))

pub returns-clause-keeps : goal.returns-clause-keeps
returns-clause-keeps g c =
    rw (← c.self.view_is)
    (paid-keeps c.self.inside.channel.value c.drain.new.channel (rw c.deref_mut.ensures.value at c.drain.ensures.drains) (g.M.LineMap.place_of c.self.inside.map.now) c.self.invariant.1.channel.contents)
