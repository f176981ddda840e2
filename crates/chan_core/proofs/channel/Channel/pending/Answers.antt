use Rattle.chan_core.proofs.channel.Channel.pending.Goals as goal

pub returns : goal.returns
returns c = rw (← c.self.view_is, ← c.self-inside.view_is) c.len.ensures
