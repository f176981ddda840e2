use Rattle.std.proofs.Common.{sym, ap, ◌∙◌, arith}
use Rattle.board_hosts.proofs.RuleSteps.{teaches_host}
use Rattle.board_hosts.proofs.mark_seats.BoardSeat.inform.Goals as goal

pub join_seat-requires : goal.join_seat-requires
join_seat-requires c = (
  ap (λ v. v.board) (c.host.view_is ∙ c.split-before.ensures.same) ∙ c.requires.host ∙ sym c.board.view_is,
  ap (λ v. v.board) (c.seat.view_is ∙ c.split.ensures.seat ∙ c.join.ensures.same) ∙ c.requires.board ∙ sym c.board.view_is,
  c.seat.invariant.1,
  omega (arith, c.board.invariant),
  teaches_host _ _ _ _ c.host.invariant.0,
)
