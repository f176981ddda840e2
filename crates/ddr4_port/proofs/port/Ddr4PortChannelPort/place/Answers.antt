use Rattle.std.proofs.Common.{sym, ◌∙◌}
use Rattle.ddr4_port.proofs.Seen.{place-named}
use Rattle.ddr4_port.proofs.port.Ddr4PortChannelPort.place.Goals as goal

pub returns : goal.returns
returns g c = rw (← c.self.view_is) (c.place.ensures ∙ sym (place-named (g.M.LineMap.place_of c.self.inside.map.now) c.self.inside.channel.value.checked.geometry c.args.line (rw (← c.self.view_is) at c.requires)))
