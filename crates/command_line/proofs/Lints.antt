-- What is told of bad lines, as it is written out.
use Rattle.std.proofs.Common.{List, ℕ, Option}
use Rattle.std.proofs.KnownBytes.{Appends-kept}
use Rattle.std.specs.Io.KnownBytes.{Keeps}
use Rattle.std.specs.declared.process.ExitCode.{ExitCode}
use Rattle.ddr4_timing.specs.declared.timing.Geometry.{Geometry}
use Rattle.script_report.specs.Reasons.{bad_lines_text}
use Rattle.command_line.specs.Lint.{TellsBadLines}

-- it stays told where a writer writes out what it has taken
pub lint_kept : (geometry : Geometry) (script : List ℕ) (code : ExitCode) (old mid new : Option (List ℕ))
    → TellsBadLines geometry script code old mid → Keeps mid new → TellsBadLines geometry script code old new
lint_kept geometry script code old mid new it kept = record {
  bad = it.bad;
  are = it.are;
  status = it.status;
  told = Appends-kept old mid new (bad_lines_text it.bad) it.told kept;
}
