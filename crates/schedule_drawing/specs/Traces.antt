-- The schedule of a trace.
use Rattle.std.specs.Prelude.{◌≡◌, false, List, [], ◌∷◌, IsTrue}
use Rattle.ddr4_timing.specs.declared.timing.CommandRules.{CommandRules}
use Rattle.command_trace.specs.declared.entry.Located.{Located}
use Rattle.schedule_drawing.specs.declared.schedule.Schedule.{Schedule}
use Rattle.schedule_drawing.specs.Drawing.{drawn, later}
use Rattle.schedule_drawing.specs.Entries.{AreAllLawful, entries_drawn, entries_found, has_closing}
use Rattle.schedule_drawing.specs.Flaws.{AreFlawsOf}
use Rattle.schedule_drawing.specs.Lives.{latest_clock}
use Rattle.schedule_drawing.specs.Schedules.{IsShownWhole}

-- What is drawn of a trace, as of one life from clock 0 on, and which commands are told to break a rule. Where some are with
-- auto-precharge, its commands are lawful, and none is.
pub record DrawsTrace (r : CommandRules) (found : List Located) (schedule : Schedule) : Type 0 where
  pub shapes :
      schedule.shapes.items ≡ drawn r.timing (later (latest_clock 0 (entries_drawn r found)) 20) (entries_drawn r found)
  pub flaws : has_closing found ≡ false → AreFlawsOf r (entries_found found) schedule.flaws.items
  pub lawful : IsTrue (has_closing found) → AreAllLawful r found
  pub none : IsTrue (has_closing found) → schedule.flaws.items ≡ []
  pub begins : schedule.begins.items ≡ 0 ∷ []
  pub events : schedule.events.items ≡ []
  pub whole : IsShownWhole schedule
