use Rattle.std.proofs.Common.{rules, ◌∙◌}
use Rattle.run_command.proofs.Growing.{writes_one}
use Rattle.run_command.proofs.printer.AnswerPrinterReport.answer.Goals as goal

pub returns-in-Ok-clause-continued : goal.returns-in-Ok-clause-continued
returns-in-Ok-clause-continued g c = λ earlier was.
    (c.write.ensures.same_reference ∙ was.0, c.write.ensures.form ∙ was.1, writes_one _ _ _ _ _ _ _ was.2 _ c.args.answer was.1 (search rules) c.in-Ok.ensures.written)
