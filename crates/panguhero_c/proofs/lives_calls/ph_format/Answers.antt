use Rattle.std.proofs.Common.{◌∙◌, ap, sym}
use Rattle.reply_codes.specs.declared.codes.Told.{Told}
use Rattle.panguhero_c.proofs.lives_calls.ph_format.Goals as goal

pub returns-clause-formats : goal.returns-clause-formats
returns-clause-formats c = λ done. c.format_store.ensures.formats (sym (ap (λ (answered : Told). answered.code) c.tell.ensures) ∙ done)
