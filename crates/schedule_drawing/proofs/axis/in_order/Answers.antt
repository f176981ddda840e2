use Rattle.std.proofs.Common.{eqb}
use Rattle.std.proofs.lemmas.List.Filters.{dedup_is}
use Rattle.schedule_drawing.proofs.Knots.{in-order}
use Rattle.schedule_drawing.proofs.axis.in_order.Goals as goal

pub returns : goal.returns
returns c =
    in-order c.args.numbers.items c.sort.new.self.items c.dedup.new.self.items
    c.sort.ensures.permutation c.in_ok-sort.ensures.sorted (dedup_is eqb _ _ c.dedup.ensures.filtered)
