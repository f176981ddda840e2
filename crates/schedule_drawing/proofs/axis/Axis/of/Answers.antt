use Rattle.std.proofs.Common.{◌∙◌, ℕ, List, ap}
use Rattle.schedule_drawing.specs.Axes.{clocks_shown, edge_at, knots_from}
use Rattle.schedule_drawing.proofs.Knots.{knots_rise}
use Rattle.schedule_drawing.proofs.axis.Axis.of.Goals as goal

pub invariant_of-result : goal.invariant_of-result
invariant_of-result c = record {
  rise =
      knots_rise (clocks_shown c.args.schedule.now) c.in_ok-clocks.clocks.items (edge_at c.args.schedule.now.first) c.in_ok-knots.knots.items
      c.in_ok-clocks.ensures (c.in_ok-knots.ensures ∙ ap (λ (l : List ℕ). knots_from (edge_at c.args.schedule.now.first) l) c.deref.ensures.value);
}
