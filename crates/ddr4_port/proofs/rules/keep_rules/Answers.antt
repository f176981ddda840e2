use Rattle.std.proofs.Common.{◌∙◌, ap, arith, inl, inr, slice_get, sym}
use Rattle.ddr4_port.proofs.Common.{cases_order}
use Rattle.ddr4_port.proofs.rules.keep_rules.Goals as goal

pub loop-number-preserved : goal.loop-number-preserved
loop-number-preserved g c number port less at = elim (cases_order number c.loop-number.number) [
  | inl same ↦ c.channel_keeps_rules.ensures port (ap (slice_get c.args.channels.now.ports.items) (sym same) ∙ at)
  | inr (inl below) ↦ c.loop-number.invariant number port below at
  | inr (inr above) ↦ absurd (omega (arith, less, above))
]

pub returns : goal.returns
returns g c number port less at = c.loop-number.invariant number port (omega (arith, less, c.loop-number-test.false, c.count-number-end.ensures)) at
