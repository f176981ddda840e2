use Rattle.drain_core.proofs.DrainingChannel.{its_most_spent}
use Rattle.drain_core.proofs.channel_drain.drain.Goals as goal

pub unreachable-requires : goal.unreachable-requires
unreachable-requires c = let never = c.in-Err.ensures.drains.asks.3 in absurd cc

pub returns-clause-most_spent : goal.returns-clause-most_spent
returns-clause-most_spent c = its_most_spent c.args.costs.now c.args.channel.now _ c.requires.costs c.requires.can c.always.ensures.contents c.in-Ok.ensures.spent
