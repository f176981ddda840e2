use Rattle.nv_script.specs.Texts.{text_lines}
use Rattle.script_report.specs.BadLines.{numbers_of}
use Rattle.script_report.proofs.Lines.{TellsFirst}
use Rattle.script_report.proofs.lint.bad_lines.Given as goal

abbrev pub invariant-loop-place : goal.invariant-loop-place
invariant-loop-place l = TellsFirst l.geometry (text_lines l.script) l.place (numbers_of l.bad.items)
