use Rattle.std.proofs.Common.{◌∙◌, sym}
use Rattle.csv.specs.Records.{fields_of}
use Rattle.command_trace.specs.Rows.{words_of_row}
use Rattle.command_trace.proofs.RowLemmas.{one_empty, words_count}
use Rattle.command_trace.proofs.row.is_blank.Goals as goal

pub returns-then-len-eq1 : goal.returns-then-len-eq1
returns-then-len-eq1 c = λ empty.
    one_empty (words_of_row (fields_of c.args.row.now)) (words_count (fields_of c.args.row.now) ∙ sym c.len.ensures ∙ c.if-len-eq1.true) (c.is_empty_at.ensures empty)
