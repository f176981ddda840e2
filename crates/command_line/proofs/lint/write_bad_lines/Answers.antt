use Rattle.std.proofs.Common.{List, rules, subst}
use Rattle.std.specs.Io.KnownBytes.{Appends}
use Rattle.std.specs.Process.{exit_status}
use Rattle.script_report.specs.Reasons.{bad_lines_text}
use Rattle.script_report.specs.declared.lint.BadLine.{BadLine}
use Rattle.command_line.proofs.BadLines.{bad_status}
use Rattle.command_line.proofs.lint.write_bad_lines.Goals as goal

pub returns-in-Ok-clause-told : goal.returns-in-Ok-clause-told
returns-in-Ok-clause-told g c = record {
  bad = c.in_ok-bad.bad.items;
  are = c.in_ok-bad.ensures;
  status = bad_status c.args.geometry.now c.args.script.now c.in_ok-bad.bad.items c.is_empty.result (exit_status c.status_by.result) c.in_ok-bad.ensures (search rules) c.status_by.ensures;
  told = subst (λ (bad : List BadLine). Appends (g.W.Write.contents c.args.writer.now) (g.W.Write.contents c.tell_bad_lines.new.writer) (bad_lines_text bad)) c.deref.ensures.value c.in-Ok.ensures;
}
