use Rattle.std.proofs.Common.{sym, ◌∙◌, arith}
use Rattle.channel_log.proofs.RuleSteps.{notes}
use Rattle.channel_log.proofs.seats.note_at.Goals as goal

pub compare_exchange_with-requires : goal.compare_exchange_with-requires
compare_exchange_with-requires g c = (c.requires.table ∙ sym c.logs.view_is, omega (arith, c.logs.invariant), notes g.W.Standing.waits _ _ _ _ c.requires.knows.0 c.requires.knows.1 c.requires.slots)
