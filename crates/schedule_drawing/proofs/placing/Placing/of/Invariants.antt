use Rattle.std.proofs.Common.{◌≡◌, ◌++◌, length, map}
use Rattle.std.specs.Prelude.{filter}
use Rattle.schedule_drawing.specs.declared.schedule.ScheduleEvent.{ScheduleEvent}
use Rattle.schedule_drawing.specs.Placings.{is_kind, text_of, text_placed}
use Rattle.schedule_drawing.proofs.placing.Placing.of.Given as goal

abbrev pub invariant-loop-left : goal.invariant-loop-left
invariant-loop-left l =
    map text_placed l.placing.placed.items ++ map (text_of l.axis.knots.items) (filter (λ (event : ScheduleEvent). is_kind l.kind event.kind) l.left)
    ≡ map (text_of l.axis.knots.items) (filter (λ (event : ScheduleEvent). is_kind l.kind event.kind) l.events)

abbrev pub decreases-loop-left : goal.decreases-loop-left
decreases-loop-left l = length l.left
