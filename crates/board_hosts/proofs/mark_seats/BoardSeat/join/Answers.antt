use Rattle.std.proofs.Common.{sym, ap, ◌∙◌, arith}
use Rattle.board_hosts.proofs.RuleSteps.{joins_host, compares_joined}
use Rattle.board_hosts.proofs.mark_seats.BoardSeat.join.Goals as goal

pub join_seat-requires : goal.join_seat-requires
join_seat-requires c = (
  ap (λ v. v.board) c.self.view_is ∙ c.requires.board ∙ sym c.board.view_is,
  ap (λ v. v.board) c.host.view_is ∙ c.requires.host ∙ sym c.board.view_is,
  c.host.invariant.1,
  omega (arith, c.board.invariant),
  joins_host _ _ _ _,
)

pub load-requires : goal.load-requires
load-requires c =
    let joined = c.join_seat.ensures in (
      joined.0 ∙ ap (λ v. v.board) c.self.view_is ∙ c.requires.board ∙ sym c.board.view_is,
      omega (arith, c.board.invariant),
      compares_joined _ _ _ (ap (λ m. m.0.owns) joined.2 ∙ c.self.invariant.0) (ap (λ m. m.1) joined.2 ∙ c.self.invariant.1),
    )
