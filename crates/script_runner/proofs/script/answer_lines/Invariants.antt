use Rattle.std.proofs.Common.{◌≡◌, take}
use Rattle.script_runner.proofs.Common.{line_count_in}
use Rattle.script_runner.specs.Runs.{NotesLines}
use Rattle.script_runner.specs.Story.{GoesOn}
use Rattle.script_runner.proofs.script.answer_lines.Given as goal

abbrev pub invariant-loop-line : goal.invariant-loop-line
invariant-loop-line g l =
    let old = l.initial.session in
    record {
      profile : l.session.profile ≡ old.profile;
      unrefused : g.R.Report.refusals l.report ≡ g.R.Report.refusals l.initial.report;
      continued : GoesOn g.R.Report.continues l.initial.report l.report;
      done : NotesLines (line_count_in old) (take l.line-index l.lines) (g.R.Report.answers l.initial.report) (g.R.Report.answers l.report) (g.B.LifeBook.kept l.book) old l.session;
    }
