use Rattle.trace_statistics.proofs.margins.ChannelMargins.rank.Goals as goal

pub returns : goal.returns
returns c t list s = (s c.args.rank _ c.requires).margins
