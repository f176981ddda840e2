-- What is written of the lives of a run.
use Rattle.std.specs.Prelude.{◌≡◌, ℕ, ◌+◌, Bool, true, false, List, ◌++◌, Some, codes, slice_get}
use Rattle.command_trace.specs.declared.entry.Located.{Located}
use Rattle.ddr4_timing.specs.declared.command.Stamped.{Stamped}
use Rattle.ddr4_timing.specs.declared.timing.CommandRules.{CommandRules}
use Rattle.report_fields.specs.Fields.{fields_in}
use Rattle.run_command.specs.declared.requests.LifeWaits.{LifeWaits}
use Rattle.statistics_report.specs.Telling.{TellsObjects}
use Rattle.statistics_report.specs.Waits.{life_fields, waits_fields}
use Rattle.trace_statistics.specs.Lists.{AreEarly, located_from}
use Rattle.trace_statistics.specs.Telling.{TellsStatistics}

-- the statistics of a trace, in either form
abbrev pub TellsTrace : CommandRules → Bool → List Located → List ℕ → Type 0
TellsTrace r true found text = TellsObjects r found text
TellsTrace r false found text = TellsStatistics r found text

-- those of the channels of a life, of which each has its list: as of a trace that has one list behind another
abbrev pub TellsNumbers : CommandRules → Bool → List (List Stamped) → List ℕ → Type 0
TellsNumbers r is_json lists text = AreEarly lists → TellsTrace r is_json (located_from 0 lists) text

-- what is written of a life: its number, the statistics of its channels, and how long its reads and its writes waited
pub record TellsLifeNumbers (r : CommandRules) (is_json : Bool) (number : ℕ) (lists : List (List Stamped)) (waits : LifeWaits) (text : List ℕ) : Type 0 where
  pub numbers : List ℕ
  pub numbers_are : TellsNumbers r is_json lists numbers
  pub is : text ≡ fields_in is_json (codes "life") (life_fields number)
      ++ (numbers ++ (fields_in is_json (codes "waits") (waits_fields (codes "reads") waits.reads)
      ++ fields_in is_json (codes "waits") (waits_fields (codes "writes") waits.writes)))

-- of the life behind so many others, numbered from 1
abbrev pub TellsLifeAt : CommandRules → Bool → List (List (List Stamped)) → List LifeWaits → ℕ → List ℕ → Type 0
TellsLifeAt r is_json lives waits index text =
    (lists : List (List Stamped)) × (told : LifeWaits) × (slice_get lives index ≡ Some lists) × (slice_get waits index ≡ Some told)
    × TellsLifeNumbers r is_json (index + 1) lists told text
