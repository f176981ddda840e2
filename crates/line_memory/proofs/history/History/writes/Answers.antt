use Rattle.std.proofs.Common.{rules, ap}
use Rattle.line_memory.specs.History.{Recorded}
use Rattle.line_memory.proofs.history.History.writes.Goals as goal

pub returns : goal.returns
returns c = let writes = ap (λ (r : Recorded). r.writes) c.self.view_is in search rules
