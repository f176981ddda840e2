-- What is told of the lines of a script, and why nothing is.
use Rattle.std.specs.Prelude.{◌≡◌, ◌⊎◌, ◌↔◌, ℕ, List, [], Option}
use Rattle.std.specs.Io.KnownBytes.{Appends}
use Rattle.std.specs.Process.{exit_status}
use Rattle.std.specs.declared.process.ExitCode.{ExitCode}
use Rattle.clap.specs.declared.parser.matches.ArgMatches.{ArgMatches}
use Rattle.command_faults.specs.Exit.{IsOfOutput}
use Rattle.command_faults.specs.declared.fault.ProgramFault.{ProgramFault}
use Rattle.command_line.specs.Verbs.{IsUnread}
use Rattle.ddr4_timing.specs.declared.timing.Geometry.{Geometry}
use Rattle.script_report.specs.BadLines.{AreBadLines}
use Rattle.script_report.specs.Reasons.{bad_lines_text}
use Rattle.script_report.specs.declared.lint.BadLine.{BadLine}

-- each bad line of a script was written, and no other; the status is 0 where there is none
pub record TellsBadLines (geometry : Geometry) (script : List ℕ) (code : ExitCode) (old new : Option (List ℕ)) : Type 0 where
  pub bad : List BadLine
  pub are : AreBadLines geometry script bad
  pub status : (exit_status code ≡ 0) ↔ AreBadLines geometry script []
  pub told : Appends old new (bad_lines_text bad)

-- why no line is told: the profile or the script that the words name can't be had, or the output takes no more
abbrev pub IsUnlinted : ArgMatches → ProgramFault → Type 0
IsUnlinted matches fault = IsUnread matches fault ⊎ IsOfOutput fault
