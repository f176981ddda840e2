use Rattle.std.proofs.Common.{sym, ap, ◌∙◌, arith}
use Rattle.board_hosts.proofs.RuleSteps.{raises_persisted}
use Rattle.board_hosts.proofs.mark_seats.BoardSeat.raise.Goals as goal

pub fetch_max-requires : goal.fetch_max-requires
fetch_max-requires c =
    let accepted = c.requires.accepted in
    let is = ap (λ v. v.accepted) c.self.view_is in (
      ap (λ v. v.board) c.self.view_is ∙ c.requires.board ∙ sym c.board.view_is,
      omega (arith, c.board.invariant),
      raises_persisted _ _ _ c.args.count c.self.invariant.0 c.self.invariant.1 (omega (arith, is, accepted)),
    )
