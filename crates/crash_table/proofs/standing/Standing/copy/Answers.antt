use Rattle.std.proofs.Common.{refl}
use Rattle.crash_table.proofs.Standings.{stands_copied}
use Rattle.crash_table.proofs.standing.Standing.copy.Goals as goal

pub returns-clause-stands : goal.returns-clause-stands
returns-clause-stands g c = λ profile stands. stands_copied profile c.args.self.now _ c.in_ok-copy.ensures c.copy-2.ensures refl refl stands
