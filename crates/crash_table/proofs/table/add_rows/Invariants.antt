use Rattle.crash_table.proofs.Adding.{AddedFirst}
use Rattle.crash_table.proofs.table.add_rows.Given as goal

abbrev pub invariant-loop-place : goal.invariant-loop-place
invariant-loop-place l = AddedFirst l.others l.place l.fn.rows.items l.rows.items
