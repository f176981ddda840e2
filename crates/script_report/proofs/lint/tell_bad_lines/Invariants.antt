use Rattle.std.specs.Prelude.{take}
use Rattle.std.specs.Io.KnownBytes.{Appends}
use Rattle.script_report.specs.Reasons.{bad_lines_text}
use Rattle.script_report.proofs.lint.tell_bad_lines.Given as goal

abbrev pub invariant-loop-line : goal.invariant-loop-line
invariant-loop-line g l =
    Appends (g.W.Write.contents l.initial.writer) (g.W.Write.contents l.writer) (bad_lines_text (take l.line-index l.bad))
