use Rattle.std.proofs.Common.{sym, ◌∙◌, arith}
use Rattle.channel_log.proofs.RuleSteps.{compares}
use Rattle.channel_log.proofs.seats.compare_at.Goals as goal

pub load-requires : goal.load-requires
load-requires c = (c.requires.table ∙ sym c.logs.view_is, omega (arith, c.logs.invariant), compares _ _ _ c.requires.knows.0 c.requires.knows.1 c.requires.slots)
