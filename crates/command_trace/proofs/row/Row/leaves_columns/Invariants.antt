use Rattle.std.proofs.Common.{◌≡◌, All, Some, [], slice_get, take}
use Rattle.csv.specs.Records.{fields_of}
use Rattle.command_trace.specs.Rows.{columns_left, words_of_row}
use Rattle.command_trace.proofs.row.Row.leaves_columns.Given as goal

abbrev pub invariant-loop-column : goal.invariant-loop-column
invariant-loop-column l =
    All (λ column. slice_get (words_of_row (fields_of l.self.fields.now)) column ≡ Some []) (take l.column-index (columns_left l.kind))
