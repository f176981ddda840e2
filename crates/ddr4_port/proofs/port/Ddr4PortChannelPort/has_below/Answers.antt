use Rattle.std.proofs.Common.{nat_lt, ap, ◌∙◌}
use Rattle.ddr4_port.proofs.Numbers.{some-below}
use Rattle.ddr4_port.proofs.port.Ddr4PortChannelPort.has_below.Goals as goal

pub returns : goal.returns
returns g c = rw (← c.self.view_is) (ap (nat_lt 0) (rw c.deref.ensures at c.below.ensures) ∙ some-below c.self.inside.channel.value.channel c.args.number c.self.inside.channel.value.writes)
