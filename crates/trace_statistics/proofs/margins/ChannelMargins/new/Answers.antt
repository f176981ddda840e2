use Rattle.std.proofs.lemmas.List.{get_or-replicate}
use Rattle.trace_statistics.proofs.margins.ChannelMargins.new.Goals as goal

pub returns : goal.returns
returns c rank none below = rw (get_or-replicate 8 rank c.new.result none below) (c.new.ensures rank)
