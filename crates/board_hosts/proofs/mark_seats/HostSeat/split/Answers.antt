use Rattle.std.proofs.Common.{sym, ap, ◌∙◌, arith}
use Rattle.board_hosts.proofs.RuleSteps.{splits_host}
use Rattle.board_hosts.proofs.mark_seats.HostSeat.split.Goals as goal

pub split_seat-seat-requires : goal.split_seat-seat-requires
split_seat-seat-requires c = (
  ap (λ v. v.board) c.self.view_is ∙ c.requires ∙ sym c.board.view_is,
  omega (arith, c.board.invariant),
  splits_host _ _,
)
