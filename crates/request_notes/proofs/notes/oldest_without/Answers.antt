use Rattle.std.proofs.Common.{◌≡◌, ◌≢◌, ℕ, Option, Some, arith, subst}
use Rattle.request_notes.specs.Notes.{IsOfBank, IsOldestSeq}
use Rattle.request_notes.proofs.NoteLemmas.{gone_oldest, next_oldest}
use Rattle.request_notes.proofs.notes.oldest_without.Goals as goal

pub returns-then-eq : goal.returns-then-eq
returns-then-eq c old new rise gone is =
    let key = c.args.key.now in
    let own : c.args.oldest ≡ Some key.seq = grind (arith, c.eq.ensures, c.if-eq.true) in
    next_oldest old new c.args.later.now key key.bank c.first_of_bank.result gone (subst (λ (s : Option ℕ). IsOldestSeq (IsOfBank old key.bank) s) own is) (c.first_of_bank.ensures rise)

pub returns : goal.returns
returns c old new rise gone is =
    let key = c.args.key.now in
    let other : c.args.oldest ≢ Some key.seq = grind (arith, c.eq.ensures, c.if-eq.false) in
    gone_oldest old new c.args.later.now key key.bank c.args.oldest gone other is
