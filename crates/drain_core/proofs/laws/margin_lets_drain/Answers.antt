use Rattle.drain_core.proofs.Whole.{margin_lets_drain}
use Rattle.drain_core.proofs.laws.margin_lets_drain.Goals as goal

pub returns : goal.returns
returns c = margin_lets_drain
