use Rattle.std.proofs.Common.{refl}
use Rattle.frfcfs.proofs.CountLemmas.{counts_none}
use Rattle.frfcfs.proofs.line_counts.LineCounts.none.Goals as goal

pub returns : goal.returns
returns c = counts_none _ refl
