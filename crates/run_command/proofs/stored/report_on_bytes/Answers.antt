use Rattle.std.proofs.Common.{List, subst, sym}
use Rattle.nv_script.specs.declared.line.ScriptLine.{ScriptLine}
use Rattle.nv_script.specs.Texts.{IsScript}
use Rattle.run_command.proofs.Bad.{ended, refused_on}
use Rattle.run_command.proofs.Stores.{script_ran}
use Rattle.run_command.proofs.stored.report_on_bytes.Goals as goal

pub returns-clause-runs : goal.returns-clause-runs
returns-clause-runs g c =
    script_ran _ _ _ _ _ _ _ _ c.deref.result.now _ _ c.do_lines_on.result
    (subst (λ (lines : List ScriptLine). IsScript c.args.profile.now.checked.geometry c.args.script.now lines) (sym c.deref.ensures.value) c.in_ok-lines.ensures.script)
    c.in_ok-device.ensures.row c.do_lines_on.ensures.runs

pub returns-in_err-lines-clause-bad : goal.returns-in_err-lines-clause-bad
returns-in_err-lines-clause-bad g c =
    refused_on c.args.profile.now.checked.geometry c.args.script.now c.from_residual.result c.in_err-lines.field-0.0 c.from_residual.ensures.1 c.in_err-lines.ensures.refused

pub returns-clause-bad : goal.returns-clause-bad
returns-clause-bad g c = ended c.args.profile.now.checked.geometry c.args.script.now c.do_lines_on.result _ _ c.do_lines_on.ensures.fault
