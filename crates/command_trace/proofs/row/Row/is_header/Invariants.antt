use Rattle.std.proofs.Common.{◌≡◌, ◌<◌, ℕ, slice_get}
use Rattle.csv.specs.Records.{fields_of}
use Rattle.command_trace.specs.Rows.{header, words_of_row}
use Rattle.command_trace.proofs.row.Row.is_header.Given as goal

abbrev pub invariant-loop-place : goal.invariant-loop-place
invariant-loop-place l = (k : ℕ) → k < l.place → slice_get (words_of_row (fields_of l.self.fields.now)) k ≡ slice_get header k
