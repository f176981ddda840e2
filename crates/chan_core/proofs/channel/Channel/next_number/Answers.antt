use Rattle.chan_core.proofs.channel.Channel.next_number.Goals as goal

pub returns-clause-free : goal.returns-clause-free
returns-clause-free c = rw (← c.self.view_is, ← c.self-inside.view_is) c.next_number.ensures.free
