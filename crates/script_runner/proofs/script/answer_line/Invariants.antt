use Rattle.std.proofs.Common.{◌≡◌}
use Rattle.script_runner.proofs.Common.{line_count_in}
use Rattle.script_runner.specs.Runs.{DoesTurns}
use Rattle.script_runner.specs.Story.{GoesOn}
use Rattle.script_runner.proofs.script.answer_line.Given as goal

abbrev pub invariant-loop-turn : goal.invariant-loop-turn
invariant-loop-turn g l =
    let old = l.initial.session in
    record {
      profile : l.session.profile ≡ old.profile;
      unrefused : g.R.Report.refusals l.report ≡ g.R.Report.refusals l.initial.report;
      continued : GoesOn g.R.Report.continues l.initial.report l.report;
      turns : DoesTurns (line_count_in old) l._turn l.line (g.R.Report.answers l.initial.report) (g.R.Report.answers l.report) old l.session;
    }
