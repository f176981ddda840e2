use Rattle.chan_core.proofs.channel.Channel.phase.Goals as goal

pub returns : goal.returns
returns c = rw (← c.self.view_is, ← c.self-inside.view_is)
