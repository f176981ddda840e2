use Rattle.chan_core.proofs.channel.Channel.open_row.Goals as goal

pub returns : goal.returns
returns c = rw (← c.self.view_is) (c.open_row.ensures c.self.inside.memory.commands c.self.invariant.stands)
