use Rattle.std.proofs.Common.{true≢false, sym, ◌∙◌}
use Rattle.panguhero_c.proofs.exports.ph_open_memory.Goals as goal

pub returns-clause-already : goal.returns-clause-already
returns-clause-already c = λ held. absurd (true≢false (sym (c.is_open.ensures.is.1 held) ∙ c.if-is_open.false))

pub returns-in-Ok-new-clause-already : goal.returns-in-Ok-new-clause-already
returns-in-Ok-new-clause-already c = λ held. absurd (true≢false (sym (c.is_open.ensures.is.1 held) ∙ c.if-is_open.false))
