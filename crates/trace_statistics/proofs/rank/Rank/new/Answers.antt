use Rattle.std.proofs.lemmas.List.{get_or-replicate}
use Rattle.trace_statistics.specs.declared.phase.Phase.TheVariants.{Closed}
use Rattle.trace_statistics.proofs.Banks.{rank_none}
use Rattle.trace_statistics.proofs.rank.Rank.new.Goals as goal

pub returns : goal.returns
returns c rank = rank_none rank _ _ c.new.result (λ i d small. get_or-replicate 16 i Closed d small) (λ i d small. get_or-replicate 16 i c.new.result d small) c.new.ensures
