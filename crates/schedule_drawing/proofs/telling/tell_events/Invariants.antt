use Rattle.std.proofs.Common.{◌≡◌, ◌++◌, length, map}
use Rattle.schedule_drawing.specs.Events.{event_place, events_told}
use Rattle.schedule_drawing.proofs.telling.tell_events.Given as goal

abbrev pub invariant-loop-left : goal.invariant-loop-left
invariant-loop-left l =
    map event_place l.events.items ++ events_told l.begin l.clock l.left ≡ map event_place l.fn.events.items ++ events_told l.begin l.begin l.answers

abbrev pub decreases-loop-left : goal.decreases-loop-left
decreases-loop-left l = length l.left
