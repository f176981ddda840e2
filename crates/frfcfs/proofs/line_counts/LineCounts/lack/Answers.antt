use Rattle.std.proofs.Common.{ap, ◌∙◌, get_or, sym, ℕ}
use Rattle.std.proofs.lemmas.Bool.{eqb-true}
use Rattle.frfcfs.proofs.CountLemmas.{counts_lack}
use Rattle.frfcfs.proofs.line_counts.LineCounts.lack.Goals as goal

pub returns : goal.returns
returns c lines are none = counts_lack lines c.args.self.now c.args.line are (ap (λ (n : ℕ). get_or c.args.self.now.counts n 0) (sym c.low_bits.ensures) ∙ eqb-true _ _ none)
