use Rattle.std.proofs.Common.{rules}
use Rattle.trace_forms.proofs.Lines.{refused_word}
use Rattle.trace_forms.proofs.naming.slots_of.Goals as goal

pub returns-in_err-slot-clause-none : goal.returns-in_err-slot-clause-none
returns-in_err-slot-clause-none c =
    let none = c.in_err-slot.ensures.none in
    let refused = refused_word c.args.words.now c.loop-i.i _ _ c.loop-i-test.true none.0 none.1 in
    search (rules, refused)
