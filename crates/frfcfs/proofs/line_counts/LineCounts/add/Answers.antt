use Rattle.std.proofs.Common.{arith, refl}
use Rattle.frfcfs.proofs.CountLemmas.{counts_add}
use Rattle.frfcfs.proofs.line_counts.LineCounts.add.Goals as goal

pub returns : goal.returns
returns c lines are = rw c.low_bits.ensures (counts_add lines c.args.line c.args.self.now _ (omega arith) refl are)
