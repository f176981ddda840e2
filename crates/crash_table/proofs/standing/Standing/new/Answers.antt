use Rattle.std.proofs.Common.{refl}
use Rattle.crash_table.proofs.Standings.{stands_first}
use Rattle.crash_table.proofs.standing.Standing.new.Goals as goal

pub returns-clause-stands : goal.returns-clause-stands
returns-clause-stands g c = stands_first c.args.profile.now _ c.in_ok-new.ensures.profile c.new-2.ensures refl refl
