-- Lives one behind another, and the clocks that are shown of them.
use Rattle.std.specs.Prelude.{◌≡◌, ◌-◌, ◌^◌, ℕ, List, ◌∷◌, [], ◌++◌}
use Rattle.ddr4_timing.specs.declared.timing.Timing.{Timing}
use Rattle.command_trace.specs.declared.entry.ChannelCommand.{ChannelCommand}
use Rattle.schedule_drawing.specs.declared.schedule.Schedule.{Schedule}
use Rattle.schedule_drawing.specs.Drawing.{drawn, later}
use Rattle.schedule_drawing.specs.Lives.{latest_clock}

-- A life with these commands is behind the others. A row that nothing closes stays open for 20 clocks behind the last command.
pub record AddsLife (t : Timing) (begin : ℕ) (entries : List ChannelCommand) (old new : Schedule) : Type 0 where
  pub shapes : new.shapes.items ≡ old.shapes.items ++ drawn t (later (latest_clock begin entries) 20) entries
  pub begins : new.begins.items ≡ old.begins.items ++ begin ∷ []

-- every clock is shown
pub record IsShownWhole (schedule : Schedule) : Type 0 where
  pub first : schedule.first ≡ 0
  pub last : schedule.last ≡ 2 ^ 64 - 1

-- those that were shown are, and no others
pub record ShowsSame (old new : Schedule) : Type 0 where
  pub first : new.first ≡ old.first
  pub last : new.last ≡ old.last
