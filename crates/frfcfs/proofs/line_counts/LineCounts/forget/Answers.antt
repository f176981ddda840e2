use Rattle.std.proofs.Common.{arith, refl}
use Rattle.frfcfs.proofs.CountLemmas.{counts_forget}
use Rattle.frfcfs.proofs.line_counts.LineCounts.forget.Goals as goal

pub returns : goal.returns
returns c lines place at are = rw c.low_bits.ensures (counts_forget lines place c.args.line c.args.self.now _ at (omega arith) refl are)
