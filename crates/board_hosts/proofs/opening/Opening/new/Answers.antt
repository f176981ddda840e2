use Rattle.std.proofs.Common.{sym, ◌∙◌}
use Rattle.board_hosts.proofs.opening.Opening.new.Goals as goal

pub invariant_of-result : goal.invariant_of-result
invariant_of-result c = (c.in_ok-marks.ensures.board, c.in_ok-marks.ensures.number ∙ sym c.new-blank.ensures, c.in_ok-marks.ensures.hosts)
