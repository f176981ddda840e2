use Rattle.module_core.proofs.Common.{sym, ◌∙◌}
use Rattle.module_core.proofs.front.Front.accept_write.Goals as goal

pub returns-in-Some-clause-refusal : goal.returns-in-Some-clause-refusal
returns-in-Some-clause-refusal c = λ shape m line h told. sym (c.write_refusal.ensures.refusal shape m line h told) ∙ c.in-Some.is

pub returns-in-None-clause-admitted : goal.returns-in-None-clause-admitted
returns-in-None-clause-admitted c = λ shape m line h told. sym (c.write_refusal.ensures.refusal shape m line h told) ∙ c.in-None.is
