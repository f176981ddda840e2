use Rattle.std.proofs.Common.{sym, ap, ◌∙◌, arith}
use Rattle.channel_log.proofs.RuleSteps.{deals}
use Rattle.channel_log.proofs.seats.FrontSeat.deal.Goals as goal

pub split_seat-seat-requires : goal.split_seat-seat-requires
split_seat-seat-requires c = (
  ap (λ v. v.table) c.self.view_is ∙ c.requires ∙ sym c.logs.view_is,
  omega (arith, c.logs.invariant),
  deals _ _ c.self.invariant.0 c.self.invariant.1,
)
