use Rattle.std.proofs.Common.{◌-◌}
use Rattle.board_desk.proofs.all_locks.+call_from.Given as goal

abbrev pub decreases-call_from : goal.decreases-call_from
decreases-call_from g l = 8 - l.number
