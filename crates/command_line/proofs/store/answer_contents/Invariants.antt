use Rattle.std.proofs.Common.{◌≡◌, ◌++◌}
use Rattle.command_line.specs.Store.{shown_lines}
use Rattle.command_line.proofs.store.answer_contents.Given as goal

abbrev pub invariant-loop-line : goal.invariant-loop-line
invariant-loop-line g l = g.R.Report.answers l.report ≡ g.R.Report.answers l.initial.report ++ shown_lines l.memory l.line
