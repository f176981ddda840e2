use Rattle.chan_core.proofs.channel.Channel.may_take.Goals as goal

pub returns : goal.returns
returns c = rw (← c.self.view_is, ← c.self-inside.view_is) c.may_take.ensures
