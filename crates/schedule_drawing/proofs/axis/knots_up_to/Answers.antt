use Rattle.std.proofs.Common.{rules, of_calls, nat_le}
use Rattle.std.proofs.lemmas.Fn.{always_returns_same}
use Rattle.std.proofs.lemmas.List.Sorted.{IsPartitionedBy-leb}
use Rattle.schedule_drawing.specs.declared.axis.Knot.{Knot}
use Rattle.schedule_drawing.proofs.axis.knots_up_to.Goals as goal

pub returns-clause-up_to : goal.returns-clause-up_to
returns-clause-up_to c =
    c.partition_point.ensures.partitioned (λ (knot : Knot). nat_le knot.clock c.args.clock) (always_returns_same _ _ _ (λ a r f k. search (rules, of_calls)))
    (IsPartitionedBy-leb (λ (knot : Knot). knot.clock) c.args.knots.now c.args.clock c.requires)
