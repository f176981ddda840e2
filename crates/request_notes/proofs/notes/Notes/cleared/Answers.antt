use Rattle.std.proofs.Common.{arith, length-set, ◌∙◌}
use Rattle.request_notes.proofs.NoteLemmas.{cleared_more, notes_none}
use Rattle.request_notes.proofs.notes.Notes.cleared.Goals as goal

pub loop-bank-init : goal.loop-bank-init
loop-bank-init c = (λ b less. absurd (omega (arith, less)), omega arith)

pub loop-bank-preserved : goal.loop-bank-preserved
loop-bank-preserved c =
    let (before, size) = c.loop-bank.invariant in
    (cleared_more c.loop-bank.banks c.loop-bank.bank c.none.result _ (omega (arith, size, c.loop-bank-test.true)) c.none.ensures before, length-set c.loop-bank.banks c.loop-bank.bank c.none.result ∙ size)

pub returns : goal.returns
returns c = notes_none c.loop-bank.banks c.none-2.result (λ b small. c.loop-bank.invariant.0 b (omega (arith, small, c.loop-bank-test.false))) c.none-2.ensures
