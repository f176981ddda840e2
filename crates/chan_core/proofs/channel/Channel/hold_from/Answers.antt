use Rattle.chan_core.proofs.channel.Channel.hold_from.Goals as goal

pub returns : goal.returns
returns c = rw (← c.self.view_is) c.set_hold.ensures
