use Rattle.std.proofs.Common.{◌≡◌, sym, ◌∙◌}
use Rattle.std.proofs.lemmas.Result.{IfOk-weaker}
use Rattle.std.specs.Process.{exit_status}
use Rattle.command_faults.specs.Named.{HasProfile, OfScriptNamed}
use Rattle.run_command.specs.Whole.{IsToldRun}
use Rattle.command_line.specs.Check.{HasVerdictBy}
use Rattle.command_line.specs.Crash.{IsCrashTold}
use Rattle.command_line.specs.Done.{IsDone}
use Rattle.command_line.specs.Lint.{TellsBadLines}
use Rattle.command_line.specs.Profile.{ExplainsProfile}
use Rattle.command_line.specs.Verbs.{profile_word, script_word}
use Rattle.command_line.proofs.VerbWords.{run-live, run-show, run-lint, run-crash, run-check, run-draw, run-profile, live-show, live-lint, live-crash, live-check, live-draw, live-profile, lint-crash, lint-check, lint-draw, lint-profile, crash-check, crash-draw, crash-profile, check-draw, check-profile}
use Rattle.command_line.proofs.Outcomes.{both_at_ok}
use Rattle.command_line.proofs.command.done.Goals as goal

pub returns-in-run : goal.returns-in-run
returns-in-run g c =
    let gives = g.R.FileHost.gives c.args.rt.now in
    let verb = c.args.verb.now in
    let matches = c.args.matches.now in
    let old = g.W.Write.contents c.args.writer.now in
    let new = g.W.Write.contents c.answer.new.writer in
    IfOk-weaker c.answer.result
    (λ code. (exit_status code ≡ 0) × OfScriptNamed gives (profile_word matches) (script_word matches) (IsToldRun old new))
    (λ code. IsDone gives verb matches code old new)
    (λ code told. record {
      run = λ e. told;
      live = λ e. absurd (run-live (sym c.in-run.is ∙ e));
      show = λ e. absurd (run-show (sym c.in-run.is ∙ e));
      lint = λ e. absurd (run-lint (sym c.in-run.is ∙ e));
      crash = λ e. absurd (run-crash (sym c.in-run.is ∙ e));
      check = λ e. absurd (run-check (sym c.in-run.is ∙ e));
      draw = λ e. absurd (run-draw (sym c.in-run.is ∙ e));
      profile = λ e. absurd (run-profile (sym c.in-run.is ∙ e));
    }) c.answer.ensures

pub returns-in-live : goal.returns-in-live
returns-in-live g c =
    let gives = g.R.FileHost.gives c.args.rt.now in
    let verb = c.args.verb.now in
    let matches = c.args.matches.now in
    let old = g.W.Write.contents c.args.writer.now in
    let new = g.W.Write.contents c.live.new.writer in
    both_at_ok c.live.result
    (λ code. exit_status code ≡ 0)
    (λ code. HasProfile gives (profile_word matches))
    (λ code. IsDone gives verb matches code old new)
    (λ code ended named. record {
      run = λ e. absurd (c.in-live.not-run e);
      live = λ e. (ended, named);
      show = λ e. absurd (live-show (sym c.in-live.is ∙ e));
      lint = λ e. absurd (live-lint (sym c.in-live.is ∙ e));
      crash = λ e. absurd (live-crash (sym c.in-live.is ∙ e));
      check = λ e. absurd (live-check (sym c.in-live.is ∙ e));
      draw = λ e. absurd (live-draw (sym c.in-live.is ∙ e));
      profile = λ e. absurd (live-profile (sym c.in-live.is ∙ e));
    }) c.live.ensures.ended c.live.ensures.named

pub returns-in-lint : goal.returns-in-lint
returns-in-lint g c =
    let gives = g.R.FileHost.gives c.args.rt.now in
    let verb = c.args.verb.now in
    let matches = c.args.matches.now in
    let old = g.W.Write.contents c.args.writer.now in
    let new = g.W.Write.contents c.lint.new.writer in
    IfOk-weaker c.lint.result
    (λ code. OfScriptNamed gives (profile_word matches) (script_word matches) (λ profile script. TellsBadLines profile.checked.geometry script code old new))
    (λ code. IsDone gives verb matches code old new)
    (λ code told. record {
      run = λ e. absurd (c.in-lint.not-run e);
      live = λ e. absurd (c.in-lint.not-live e);
      show = λ e. absurd (c.in-lint.not-show e);
      lint = λ e. told;
      crash = λ e. absurd (lint-crash (sym c.in-lint.is ∙ e));
      check = λ e. absurd (lint-check (sym c.in-lint.is ∙ e));
      draw = λ e. absurd (lint-draw (sym c.in-lint.is ∙ e));
      profile = λ e. absurd (lint-profile (sym c.in-lint.is ∙ e));
    }) c.lint.ensures.told

pub returns-in-crash : goal.returns-in-crash
returns-in-crash g c =
    let gives = g.R.FileHost.gives c.args.rt.now in
    let verb = c.args.verb.now in
    let matches = c.args.matches.now in
    let old = g.W.Write.contents c.args.writer.now in
    let new = g.W.Write.contents c.crash.new.writer in
    IfOk-weaker c.crash.result
    (λ code. (exit_status code ≡ 0) × OfScriptNamed gives (profile_word matches) (script_word matches) (λ profile script. IsCrashTold profile script old new))
    (λ code. IsDone gives verb matches code old new)
    (λ code told. record {
      run = λ e. absurd (c.in-crash.not-run e);
      live = λ e. absurd (c.in-crash.not-live e);
      show = λ e. absurd (c.in-crash.not-show e);
      lint = λ e. absurd (c.in-crash.not-lint e);
      crash = λ e. told.1;
      check = λ e. absurd (crash-check (sym c.in-crash.is ∙ e));
      draw = λ e. absurd (crash-draw (sym c.in-crash.is ∙ e));
      profile = λ e. absurd (crash-profile (sym c.in-crash.is ∙ e));
    }) c.crash.ensures

pub returns-in-check : goal.returns-in-check
returns-in-check g c =
    let gives = g.R.FileHost.gives c.args.rt.now in
    let verb = c.args.verb.now in
    let matches = c.args.matches.now in
    let old = g.W.Write.contents c.args.writer.now in
    let new = g.W.Write.contents c.check.new.writer in
    IfOk-weaker c.check.result (λ code. HasVerdictBy gives matches code old new)
    (λ code. IsDone gives verb matches code old new)
    (λ code told. record {
      run = λ e. absurd (c.in-check.not-run e);
      live = λ e. absurd (c.in-check.not-live e);
      show = λ e. absurd (c.in-check.not-show e);
      lint = λ e. absurd (c.in-check.not-lint e);
      crash = λ e. absurd (c.in-check.not-crash e);
      check = λ e. told;
      draw = λ e. absurd (check-draw (sym c.in-check.is ∙ e));
      profile = λ e. absurd (check-profile (sym c.in-check.is ∙ e));
    }) c.check.ensures

pub returns-in_default : goal.returns-in_default
returns-in_default g c =
    let gives = g.R.FileHost.gives c.args.rt.now in
    let verb = c.args.verb.now in
    let matches = c.args.matches.now in
    let old = g.W.Write.contents c.args.writer.now in
    let new = g.W.Write.contents c.explain.new.writer in
    IfOk-weaker c.explain.result
    (λ code. (exit_status code ≡ 0) × ExplainsProfile gives (profile_word matches) old new)
    (λ code. IsDone gives verb matches code old new)
    (λ code told. record {
      run = λ e. absurd (c.in_default.not-run e);
      live = λ e. absurd (c.in_default.not-live e);
      show = λ e. absurd (c.in_default.not-show e);
      lint = λ e. absurd (c.in_default.not-lint e);
      crash = λ e. absurd (c.in_default.not-crash e);
      check = λ e. absurd (c.in_default.not-check e);
      draw = λ e. absurd (c.in_default.not-draw e);
      profile = λ e. told.1;
    }) c.explain.ensures
