use Rattle.std.proofs.Common.{sym, ap, ◌∙◌, arith}
use Rattle.board_hosts.proofs.RuleSteps.{stores_accepted}
use Rattle.board_hosts.proofs.mark_seats.BoardSeat.accept.Goals as goal

pub store-requires : goal.store-requires
store-requires c =
    let rises = c.requires.rises in
    let is = ap (λ v. v.accepted) c.self.view_is in (
      ap (λ v. v.board) c.self.view_is ∙ c.requires.board ∙ sym c.board.view_is,
      omega (arith, c.board.invariant),
      stores_accepted _ _ _ c.args.count c.self.invariant.0 c.self.invariant.1 (omega (arith, is, rises)),
    )
