-- The clocks of a life.
use Rattle.std.specs.Prelude.{ℕ, ◌≤◌, List, All, fold, max}
use Rattle.command_trace.specs.declared.entry.ChannelCommand.{ChannelCommand}
use Rattle.schedule_drawing.specs.declared.shapes.Shape.{Shape}
use Rattle.schedule_drawing.specs.Drawing.{shape_to}

-- the last clock of a life that began with a clock
abbrev pub latest_clock : ℕ → List ChannelCommand → ℕ
latest_clock begin entries = fold (λ last entry. max last entry.command.clock) begin entries

-- no shape ends behind the clock
abbrev pub EndBy : ℕ → List Shape → Type 0
EndBy end shapes = All (λ shape. shape_to shape ≤ end) shapes
