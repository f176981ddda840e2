use Rattle.std.proofs.Common.{arith, refl}
use Rattle.frfcfs.specs.NotedLook.{AreSoonest}
use Rattle.frfcfs.proofs.Common.{WantsColumn, WantsRow, limit_of}
use Rattle.frfcfs.proofs.SoonEnds.{any_of, bank_there, best_of, found_of}
use Rattle.frfcfs.proofs.noted_look.find_noted.Goals as goal

pub look_at_each-requires-clause-there : goal.look_at_each-requires-clause-there
look_at_each-requires-clause-there c n within has = bank_there c.args.banks.now.checked.geometry c.args.keys.now c.args.book.now.notes n c.requires.keys (c.requires.notes c.if-not-book.false) within has

pub returns-clause-any : goal.returns-clause-any
returns-clause-any c pending are =
    let b = c.args.banks.now.checked in
    any_of b.geometry pending c.args.keys.now c.args.book.now.notes c.is_empty.result b.is_small are (c.requires.notes c.if-not-book.false) c.is_empty.ensures.none c.is_empty.ensures.some

pub returns-clause-found : goal.returns-clause-found
returns-clause-found c pending are =
    let b = c.args.banks.now.checked in
    let keys = c.args.keys.now in
    let look = c.in_ok-look.look in
    let limit = limit_of c.args.last in
    let found = c.in_ok-look.ensures.found keys (c.requires.notes c.if-not-book.false) in (
      found_of b.geometry pending keys c.args.now limit look.column _ b.is_small are c.best.ensures.clock (λ less. c.best.ensures.place (omega (arith, less, c.saturating_add-limit.ensures))) found.0,
      λ ahead. found_of b.geometry pending keys c.args.now limit look.row _ b.is_small are c.best-2.ensures.clock (λ _. c.best-2.ensures.place (omega (arith, ahead, c.best.ensures.clock, c.best-2.ensures.clock))) found.1,
    )

pub returns-clause-best : goal.returns-clause-best
returns-clause-best c list pending s are =
    let b = c.args.banks.now.checked in
    let keys = c.args.keys.now in
    let look = c.in_ok-look.look in
    let last = c.args.last in
    let limit = limit_of last in
    let soonest : AreSoonest b list pending c.args.now last limit look = c.in_ok-look.ensures.soonest list pending keys s (c.ends-ends.ensures.ends list s) are (c.requires.notes c.if-not-book.false) in record {
      column = best_of (WantsColumn list) b list pending keys c.args.now last limit look.column _ c.requires.order are.keyed c.best.ensures.clock (λ less. c.best.ensures.place (omega (arith, less, c.saturating_add-limit.ensures))) soonest.column;
      row = λ ahead. best_of (WantsRow list pending) b list pending keys c.args.now last limit look.row _ c.requires.order are.keyed c.best-2.ensures.clock (λ _. c.best-2.ensures.place (omega (arith, ahead, c.best.ensures.clock, c.best-2.ensures.clock))) soonest.row;
      later = λ i k within from t. let f = soonest.row.first t.0.seq k from (i, t, refl) in (f.0, omega (arith, f.1, c.best-2.ensures.clock));
    }
