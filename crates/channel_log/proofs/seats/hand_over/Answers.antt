use Rattle.std.proofs.Common.{sym, ap, ◌∙◌, arith}
use Rattle.channel_log.proofs.RuleSteps.{leaves, enters}
use Rattle.channel_log.proofs.seats.hand_over.Goals as goal

pub split_seat-known-requires : goal.split_seat-known-requires
split_seat-known-requires c = (c.requires.tables.0 ∙ sym c.logs.view_is, omega (arith, c.logs.invariant), leaves _ _ c.requires.knows.0)

pub join_seat-requires : goal.join_seat-requires
join_seat-requires c =
    let cut = c.split_seat-known.ensures in (
      c.requires.tables.1 ∙ sym c.logs.view_is,
      cut.3 ∙ c.requires.tables.0 ∙ sym c.logs.view_is,
      ap (λ m. m.1) cut.4,
      omega (arith, c.logs.invariant),
      enters _ _ _ _ (ap (λ m. m.0.has_all) cut.4 ∙ c.requires.knows.0),
    )
