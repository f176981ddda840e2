use Rattle.std.proofs.Common.{◌≡◌, ◌∙◌, ◌+◌, List, get_or, Some, None, ap, subst, sym}
use Rattle.crash_table.specs.declared.table.OutcomeCount.{OutcomeCount}
use Rattle.crash_table.specs.Rows.{IsOneMore, IsRowOf}
use Rattle.crash_table.proofs.Rows.{row_comes, row_counts}
use Rattle.crash_table.proofs.table.count_outcome.Goals as goal

pub returns-in-Some : goal.returns-in-Some
returns-in-Some c =
    let rows : List OutcomeCount = c.args.rows.now.items in
    let row : OutcomeCount = c.index_mut.result.now in
    let at : row ≡ get_or rows c.in-Some.place row = c.index_mut.ensures.value in
    let is : IsRowOf c.args.outcome rows (Some c.in-Some.place) = subst (λ (rs : List OutcomeCount). IsRowOf c.args.outcome rs (Some c.in-Some.place)) c.deref.ensures.value c.in-Some.ensures in
    row_counts c.args.outcome rows c.in-Some.place row (record { outcome = row.outcome; times = row.times + 1 }) is.0 (is.1 row)
    (ap (λ (x : OutcomeCount). x.outcome) at ∙ is.1 row) (ap (λ (x : OutcomeCount). x.times + 1) at)

pub returns-in_ok-push-in-None : goal.returns-in_ok-push-in-None
returns-in_ok-push-in-None c =
    let none : IsRowOf c.args.outcome c.args.rows.now.items None = subst (λ (rs : List OutcomeCount). IsRowOf c.args.outcome rs None) c.deref.ensures.value c.in-None.ensures in
    subst (IsOneMore c.args.outcome c.args.rows.now.items) (sym c.in_ok-push-in-None.ensures.items) (row_comes c.args.outcome c.args.rows.now.items none)
