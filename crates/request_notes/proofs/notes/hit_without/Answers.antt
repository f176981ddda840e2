use Rattle.std.proofs.Common.{◌≡◌, ◌≢◌, ℕ, Option, Some, arith, subst, sym}
use Rattle.request_notes.specs.Notes.{IsHit, IsOldestSeq}
use Rattle.request_notes.proofs.NoteLemmas.{gone_hit, gone_is, next_hit}
use Rattle.request_notes.proofs.notes.hit_without.Goals as goal

pub returns-then-eq : goal.returns-then-eq
returns-then-eq c old new row rise gone is =
    let key = c.args.key.now in
    let kind = c.args.kind in
    let own : c.args.seq ≡ Some key.seq = grind (arith, c.eq.ensures, c.if-eq.true) in
    let first = subst (λ (s : Option ℕ). IsOldestSeq (IsHit old key.bank row kind) s) own is in
    let its = gone_is old new c.args.later.now key key.bank row kind gone first in
    next_hit old new c.args.later.now key key.bank row kind c.first_of_row.result gone first (subst (λ (r : Option ℕ). IsOldestSeq (IsHit c.args.later.now key.bank r kind) c.first_of_row.result) (sym its.0) (c.first_of_row.ensures rise))

pub returns : goal.returns
returns c old new row rise gone is =
    let key = c.args.key.now in
    let other : c.args.seq ≢ Some key.seq = grind (arith, c.eq.ensures, c.if-eq.false) in
    gone_hit old new c.args.later.now key key.bank row c.args.kind c.args.seq gone other is
