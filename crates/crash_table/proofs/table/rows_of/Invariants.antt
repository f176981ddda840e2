use Rattle.std.proofs.Common.{take}
use Rattle.crash_table.specs.Rows.{AreRowsOf}
use Rattle.crash_table.proofs.table.rows_of.Given as goal

abbrev pub invariant-loop-one : goal.invariant-loop-one
invariant-loop-one l = AreRowsOf (take l.one-index l.tried) l.rows.items
