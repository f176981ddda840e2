use Rattle.whole_lives.proofs.Asking.{asked_all, none_left}
use Rattle.whole_lives.proofs.events.events_of.Goals as goal

pub returns-clause-are : goal.returns-clause-are
returns-clause-are c = asked_all c.args.asks.now c.loop-left.left.now c.loop-left.events.items (none_left c.loop-left.left.now c.in_default.len_below) c.loop-left.invariant.so_far
