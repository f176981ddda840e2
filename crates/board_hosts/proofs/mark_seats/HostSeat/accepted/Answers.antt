use Rattle.std.proofs.Common.{sym, ap, ◌∙◌, arith}
use Rattle.board_hosts.proofs.RuleSteps.{loads_accepted}
use Rattle.board_hosts.proofs.mark_seats.HostSeat.accepted.Goals as goal

pub load-requires : goal.load-requires
load-requires c = (
  ap (λ v. v.board) c.self.view_is ∙ c.requires ∙ sym c.board.view_is,
  omega (arith, c.board.invariant),
  loads_accepted _ _ _ c.self.invariant.0 c.self.invariant.1,
)
