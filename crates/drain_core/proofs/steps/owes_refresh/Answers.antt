use Rattle.std.proofs.Common.{ℕ, ap}
use Rattle.drain_core.proofs.Common.{nat_lt, owes_refresh}
use Rattle.drain_core.proofs.steps.owes_refresh.Goals as goal

pub returns : goal.returns
unfolding owes_refresh
returns c = ap (λ (owed : ℕ). nat_lt 0 owed) c.owed.ensures
