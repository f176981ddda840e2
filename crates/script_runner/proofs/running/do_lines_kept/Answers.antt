use Rattle.std.proofs.Common.{refl}
use Rattle.ddr4_timing.specs.Limits.{lines_of}
use Rattle.script_runner.specs.Story.{AreCutShort}
use Rattle.script_runner.proofs.Results.{if_err_so}
use Rattle.script_runner.proofs.Stories.{cut_first}
use Rattle.script_runner.proofs.running.do_lines_kept.Goals as goal

pub returns-in_err-bytes-clause-cut : goal.returns-in_err-bytes-clause-cut
returns-in_err-bytes-clause-cut g c =
    let lines = lines_of c.args.profile.now.checked.geometry in let said = g.R.Report.answers c.args.report.now in
    if_err_so c.from_residual.result (AreCutShort lines c.args.lines.now said said) (cut_first lines c.args.lines.now said said refl)

pub returns-in_err-device-clause-cut : goal.returns-in_err-device-clause-cut
returns-in_err-device-clause-cut g c =
    let lines = lines_of c.args.profile.now.checked.geometry in let said = g.R.Report.answers c.args.report.now in
    if_err_so c.from_residual-in_err-device.result (AreCutShort lines c.args.lines.now said said) (cut_first lines c.args.lines.now said said refl)
