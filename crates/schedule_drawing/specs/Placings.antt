-- The texts of events, each across a picture where its clock stands.
use Rattle.std.specs.Prelude.{ℕ, Bool, true, false, List}
use Rattle.std.specs.String.{string_bytes}
use Rattle.schedule_drawing.specs.declared.axis.Knot.{Knot}
use Rattle.schedule_drawing.specs.declared.placing.Placed.{Placed}
use Rattle.schedule_drawing.specs.declared.schedule.EventKind.{EventKind}
use Rattle.schedule_drawing.specs.declared.schedule.EventKind.TheVariants.{Device, Mode}
use Rattle.schedule_drawing.specs.declared.schedule.ScheduleEvent.{ScheduleEvent}
use Rattle.schedule_drawing.specs.Axes.{x_at}

-- an event of the kind
abbrev pub is_kind : EventKind → EventKind → Bool
is_kind Device Device = true
is_kind Mode Mode = true
is_kind kind other = false

-- a text, and where it begins
pub record TextAt : Type 0 where
  pub x : ℕ
  pub text : List ℕ

abbrev pub text_at : ℕ → List ℕ → TextAt
text_at x text = record { x = x; text = text }

abbrev pub text_of : List Knot → ScheduleEvent → TextAt
text_of knots event = text_at (x_at knots event.clock) (string_bytes event.text)

abbrev pub text_placed : Placed → TextAt
text_placed placed = text_at placed.x placed.text.now
