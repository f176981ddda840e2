use Rattle.std.proofs.Common.{refl, ap, ◌∙◌, sym, arith}
use Rattle.std.proofs.lemmas.Option.{get_or_from_slice_get, slice_get_within}
use Rattle.frfcfs.proofs.Common.{Pending, column_of}
use Rattle.frfcfs.proofs.NextChoice.{column_next, none_next, rank_next, row_next}
use Rattle.frfcfs.proofs.search.first_of.Goals as goal

pub returns-in-Some-clause-next : goal.returns-in-Some-clause-next
returns-in-Some-clause-next c list s =
    let span = c.in-Some.ensures.span in
    rank_next c.args.banks.now.checked list c.args.pending.now c.args.now c.args.last _ c.args.bests c.in-Some.next (c.requires.best list s)
    (c.in-Some.ensures.next list s) (omega arith) span.0 span.1 span.2

pub returns-then-first-saturating_add-clause-next : goal.returns-then-first-saturating_add-clause-next
returns-then-first-saturating_add-clause-next c list s =
    none_next c.args.banks.now.checked list c.args.pending.now c.args.now c.args.last _ c.args.bests (c.requires.best list s)
    (c.in_default.ensures.next list s) (omega arith) (omega arith) (omega arith) (omega arith)

pub bounds-pending-column : goal.bounds-pending-column
bounds-pending-column c = let found = c.requires.found.0 (omega arith) in slice_get_within c.args.pending.now _ found.1.0 found.1.1.0.here

pub returns-then-column-row-clause-next : goal.returns-then-column-row-clause-next
returns-then-column-row-clause-next c list s =
    let found = c.requires.found.0 (omega arith) in
    column_next c.args.banks.now.checked list c.args.pending.now c.args.now c.args.last _ c.args.bests _ c.requires.order (c.requires.best list s) (c.in_default.ensures.next list s) (omega arith)
    found.0 (omega arith) c.if-column-row.true (omega arith) refl
    (λ request cmd at wants. wants.1 ∙ sym (c.column.ensures ∙ ap (λ (p : Pending). column_of p.kind p.place) (get_or_from_slice_get c.args.pending.now _ request _ at)))

pub bounds-pending-row : goal.bounds-pending-row
bounds-pending-row c = let found = c.requires.found.1 (omega (arith, c.if-column-row.false)) (omega arith) in slice_get_within c.args.pending.now _ found.1.0 found.1.1.0.here

pub row_command-requires : goal.row_command-requires
row_command-requires c =
    let found = c.requires.found.1 (omega (arith, c.if-column-row.false)) (omega arith) in
    rw (get_or_from_slice_get c.args.pending.now _ found.1.0 _ found.1.1.0.here) found.1.1.1

pub returns-clause-next : goal.returns-clause-next
returns-clause-next c list s =
    let found = c.requires.found.1 (omega (arith, c.if-column-row.false)) (omega arith) in
    row_next c.args.banks.now.checked list c.args.pending.now c.args.now c.args.last _ c.args.bests _ c.requires.order (c.requires.best list s) (c.in_default.ensures.next list s) (omega arith)
    found.0 (omega arith) c.if-column-row.false (omega arith) refl
    (λ request cmd at wants. sym (c.row_command.ensures list c.args.pending.now cmd s (rw (get_or_from_slice_get c.args.pending.now _ request _ at) wants)))
