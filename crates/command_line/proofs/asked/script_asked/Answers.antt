use Rattle.command_line.proofs.Unread.{err_script_unread}
use Rattle.command_line.proofs.asked.script_asked.Goals as goal

pub returns-in_err-script-clause-fault : goal.returns-in_err-script-clause-fault
returns-in_err-script-clause-fault g c =
    err_script_unread c.args.matches.now c.word_or-2.result c.from_residual-in_err-script.result c.in_err-script.field-0.0 c.from_residual-in_err-script.ensures.1
    c.word_or-2.ensures c.in_err-script.ensures.fault
