-- What is told of a script that may crash.
use Rattle.std.specs.Prelude.{◌≡◌, ℕ, List, ◌++◌, Bool, Option, None, Some, get_or, take}
use Rattle.std.specs.Io.KnownBytes.{Appends}
use Rattle.command_faults.specs.declared.fault.ProgramFault.{ProgramFault}
use Rattle.command_faults.specs.declared.fault.ProgramFault.TheVariants as fault
use Rattle.command_line.specs.declared.crash.Untold.{Untold}
use Rattle.command_line.specs.declared.crash.Untold.TheVariants as untold
use Rattle.crash_table.specs.Counting.{IsCountOf}
use Rattle.crash_table.specs.Outcomes.{AreTried}
use Rattle.crash_table.specs.Tables.{TellsEach}
use Rattle.crash_table.specs.declared.counts.Counts.{Counts}
use Rattle.crash_table.specs.declared.script.Script.{Script}
use Rattle.crash_table.specs.declared.table.Table.{Table}
use Rattle.crash_table.specs.declared.tried.Tried.{Tried}
use Rattle.ddr4_timing.specs.Limits.{lines_of}
use Rattle.ddr4_timing.specs.declared.timing.Geometry.{Geometry}
use Rattle.nv_profile.specs.declared.profile.Profile.{Profile}
use Rattle.nv_script.specs.Texts.{IsScript, numbers_from, text_lines}
use Rattle.nv_script.specs.declared.line.ScriptLine.{ScriptLine}
use Rattle.report_json.specs.Crashes.{counts_in, table_in}

-- the lines of a text that are run, and the number of each
abbrev pub IsReadFrom : Geometry → List ℕ → Script → Type 0
IsReadFrom geometry text script = IsScript geometry text script.lines.items × (script.numbers.items ≡ numbers_from 1 (text_lines text))

-- what restores find at each stop of each line was written, and how much was tried
pub record TellsTable (profile : Profile) (text : List ℕ) (is_json : Bool) (old new : Option (List ℕ)) : Type 0 where
  pub script : Script
  pub read : IsReadFrom profile.checked.geometry text script
  pub table : Table
  pub tells : TellsEach (lines_of profile.checked.geometry) script table
  pub told : Appends old new (table_in is_json table)

-- each stop of the line with this number was tried, and behind what restores found there is written how much was tried
pub record TellsLine (profile : Profile) (text : List ℕ) (number : ℕ) (is_json : Bool) (old new : Option (List ℕ)) : Type 0 where
  pub script : Script
  pub read : IsReadFrom profile.checked.geometry text script
  pub place : ℕ
  pub line : ScriptLine
  pub numbered : get_or script.numbers.items place 0 ≡ number
  pub tried : List Tried
  pub are : AreTried (lines_of profile.checked.geometry) (take place script.lines.items) (get_or script.lines.items place line) tried
  pub counts : Counts
  pub counted : IsCountOf tried counts
  pub stops : List ℕ
  pub told : Appends old new (stops ++ counts_in is_json counts)

-- the whole table, or one line of a number
abbrev pub TellsCrash : Profile → List ℕ → Option ℕ → Bool → Option (List ℕ) → Option (List ℕ) → Type 0
TellsCrash profile text None is_json old new = TellsTable profile text is_json old new
TellsCrash profile text (Some number) is_json old new = TellsLine profile text number is_json old new

-- so it was told, of the whole script or of one line
abbrev pub IsCrashTold : Profile → List ℕ → Option (List ℕ) → Option (List ℕ) → Type 0
IsCrashTold profile text old new = (number : Option ℕ) × (is_json : Bool) × TellsCrash profile text number is_json old new

-- the fault that the program tells of it
abbrev pub IsCrashUntold : Untold → ProgramFault → Type 0
IsCrashUntold (untold.Script why) told = told ≡ fault.Script why
IsCrashUntold (untold.NoLine number) told = told ≡ fault.NoLine number
