-- A module is put together again.
use Rattle.split_module.proofs.Gathered.{fit_together, matches_gathered}
use Rattle.split_module.proofs.gathering.SplitModule.gather.Goals as goal

pub gather-requires : goal.gather-requires
gather-requires g c = fit_together g.K.ChannelPort c.args.self c.requires c.new.result c.new.ensures.ports c.new.ensures.terms

pub returns-clause-stands : goal.returns-clause-stands
returns-clause-stands g c =
    matches_gathered g.K.ChannelPort c.args.self c.requires c.new.result c.new.ensures.ports c.new.ensures.terms c.new.ensures.costs c.gather.result c.gather.ensures.matches
