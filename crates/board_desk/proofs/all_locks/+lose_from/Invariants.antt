use Rattle.std.proofs.Common.{◌-◌}
use Rattle.board_desk.proofs.all_locks.+lose_from.Given as goal

abbrev pub decreases-lose_from : goal.decreases-lose_from
decreases-lose_from g l = 8 - l.number
