use Rattle.std.proofs.Common.{ap}
use Rattle.chan_core.specs.State.{ChannelState}
use Rattle.ddr4_port.proofs.DrainCosts.{lost-cost}
use Rattle.ddr4_port.proofs.Standing.{lost-keeps, right-lost}
use Rattle.ddr4_port.proofs.port.Ddr4PortChannelPort.lose_mains.Goals as goal

pub invariant_of-self : goal.invariant_of-self
invariant_of-self g c =
    let loses = rw c.deref_mut.ensures.value at c.begin_steps.ensures in
    right-lost (g.M.LineMap.is_lawful c.self.inside.map.now) (g.M.LineMap.geometry_of c.self.inside.map.now) (g.M.LineMap.place_of c.self.inside.map.now) c.self.inside.channel.value c.begin_steps.new.self (ap (λ (x : ChannelState). x.checked) loses.same) (rw c.deref.ensures at c.always.ensures)
    c.self.inside.stage (rw (← c.self.view_is) at c.requires.mains) c.self.invariant loses

pub returns-clause-cost : goal.returns-clause-cost
returns-clause-cost g c = rw (← c.self.view_is) (lost-cost c.self.inside.channel.value c.begin_steps.new.self (rw c.deref_mut.ensures.value at c.begin_steps.ensures))

pub returns-clause-keeps : goal.returns-clause-keeps
returns-clause-keeps g c = rw (← c.self.view_is) (lost-keeps (g.M.LineMap.place_of c.self.inside.map.now) c.self.inside.channel.value c.begin_steps.new.self (rw c.deref_mut.ensures.value at c.begin_steps.ensures))

pub returns-clause-issued : goal.returns-clause-issued
returns-clause-issued g c = rw (← c.self.view_is) (ap (λ (x : ChannelState). x.commands) (rw c.deref_mut.ensures.value at c.begin_steps.ensures.same))
