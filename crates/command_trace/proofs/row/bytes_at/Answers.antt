use Rattle.std.proofs.Common.{◌∙◌, ℕ, List, Option, Some, ap, option_map, Bor}
use Rattle.csv.specs.Records.{fields_of}
use Rattle.command_trace.proofs.RowLemmas.{no_word_there, word_there}
use Rattle.command_trace.proofs.row.bytes_at.Goals as goal

pub returns-in_err-get : goal.returns-in_err-get
returns-in_err-get c =
    ap (λ (o : Option (Bor (List ℕ))). option_map (λ (word : Bor (List ℕ)). word.now) o) c.from_residual.ensures
    ∙ no_word_there (fields_of c.args.row.now) c.args.place c.in_err-get.ensures.value

pub returns : goal.returns
returns c =
    ap (λ (word : List ℕ). Some word) c.bare.ensures ∙ word_there (fields_of c.args.row.now) c.args.place c.in_ok-get.field-0.now c.in_ok-get.ensures.value
