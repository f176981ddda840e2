use Rattle.std.proofs.Common.{rules}
use Rattle.script_report.proofs.Lines.{reads, refused_none}
use Rattle.script_report.proofs.lint.is_bad_line.Goals as goal

pub returns-in-Ok-clause-good : goal.returns-in-Ok-clause-good
returns-in-Ok-clause-good c = λ same. reads c.args.geometry.now c.args.line.now c.in-Ok._lines.items c.requires c.in-Ok.ensures.script

pub returns-clause-bad : goal.returns-clause-bad
returns-clause-bad c = λ same. refused_none c.args.geometry.now c.args.line.now c.in-Err.fault c.requires c.in-Err.ensures.refused (search rules)
