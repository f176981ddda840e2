use Rattle.std.proofs.Common.{◌∙◌, arith, sym}
use Rattle.std.proofs.lemmas.Bool.{eqb-true}
use Rattle.csv.specs.Records.{fields_of}
use Rattle.command_trace.specs.Rows.{header, words_of_row}
use Rattle.command_trace.proofs.RowLemmas.{same_words, words_count}
use Rattle.command_trace.proofs.row.Row.is_header.Goals as goal

pub returns : goal.returns
returns c = λ full.
    let fields = fields_of c.args.self.now.fields.now in
    let count = words_count fields ∙ sym c.len.ensures ∙ eqb-true c.len.result 8 full in
    same_words (words_of_row fields) header count (λ k below. c.loop-place.invariant k (omega (arith, count, below)))
