-- What changes over time where shapes are drawn.
use Rattle.std.specs.Prelude.{◌≡◌, ℕ, true, false, List, [], ◌∷◌, Contains, Some, None, slice_get}
use Rattle.std.specs.List.Sorted.{IsPermutation}
use Rattle.schedule_drawing.specs.declared.lanes.Lane.{Lane}
use Rattle.schedule_drawing.specs.declared.shapes.Shape.{Shape}
use Rattle.schedule_drawing.specs.declared.shapes.Shape.TheVariants as shape
use Rattle.schedule_drawing.specs.declared.vcd.Change.{Change}
use Rattle.schedule_drawing.specs.declared.vcd.Value.{Value}
use Rattle.schedule_drawing.specs.declared.vcd.Value.TheVariants as value
use Rattle.schedule_drawing.specs.Drawing.{later, shape_from}
use Rattle.schedule_drawing.specs.Lanes.{bus_lane}

-- what a shape's variable is where it begins, and where it ends
abbrev pub value_begun : Shape → Value
value_begun (shape.Mark lane clock command) = value.Command (Some command)
value_begun (shape.Row lane row from to is_closed) = value.Row (Some row)
value_begun (shape.Data lane from to command) = value.Data (Some command)
value_begun (shape.Refresh lane from to) = value.Refresh true

abbrev pub value_ended : Shape → Value
value_ended (shape.Mark lane clock command) = value.Command None
value_ended (shape.Row lane row from to is_closed) = value.Row None
value_ended (shape.Data lane from to command) = value.Data None
value_ended (shape.Refresh lane from to) = value.Refresh false

-- a command is told of its channel, for a clock
abbrev pub told_lane : Shape → Lane
told_lane (shape.Mark lane clock command) = bus_lane lane.channel
told_lane (shape.Row lane row from to is_closed) = lane
told_lane (shape.Data lane from to command) = lane
told_lane (shape.Refresh lane from to) = lane

abbrev pub told_to : Shape → ℕ
told_to (shape.Mark lane clock command) = later clock 1
told_to (shape.Row lane row from to is_closed) = to
told_to (shape.Data lane from to command) = to
told_to (shape.Refresh lane from to) = to

-- from a clock on the variable of a lane is this
pub record IsChange (lanes : List Lane) (lane : Lane) (clock : ℕ) (value : Value) (change : Change) : Type 0 where
  pub clock_is : change.clock ≡ clock
  pub value_is : change.value ≡ value
  pub place : Contains lanes lane → slice_get lanes change.place ≡ Some lane

abbrev pub IsBegin : List Lane → Shape → Change → Type 0
IsBegin lanes it change = IsChange lanes (told_lane it) (shape_from it) (value_begun it) change

abbrev pub IsEnd : List Lane → Shape → Change → Type 0
IsEnd lanes it change = IsChange lanes (told_lane it) (told_to it) (value_ended it) change

-- of each shape its begin and its end, and nothing else
unfoldable pub AreInTurn : List Lane → List Shape → List Change → Type 0
AreInTurn lanes [] changes = changes ≡ []
AreInTurn lanes (it ∷ shapes) changes =
    (begin : Change) × (end : Change) × (rest : List Change)
    × (changes ≡ begin ∷ end ∷ rest) × IsBegin lanes it begin × IsEnd lanes it end × AreInTurn lanes shapes rest

-- the same in another order
abbrev pub AreChangesOf : List Lane → List Shape → List Change → Type 0
AreChangesOf lanes shapes changes = (turns : List Change) × AreInTurn lanes shapes turns × IsPermutation turns changes
