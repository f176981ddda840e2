use Rattle.std.proofs.Common.{◌≡◌, ◌++◌, List, ℕ, rules, sym}
use Rattle.std.specs.String.{string_bytes}
use Rattle.answer_json.proofs.Lines.{has_more, put_more}
use Rattle.answer_json.proofs.line.LineText.put.Goals as goal

pub returns : goal.returns
returns c = λ words is.
    let old : List ℕ = string_bytes c.args.self.now.text in
    let grown : string_bytes c.push_str-2.new.self ≡ (old ++ c.space-space.result.now) ++ c.args.word.now = search rules in
    record {
      text = put_more words c.args.word.now old (string_bytes c.push_str-2.new.self) c.space-space.result.now c.args.self.now.is_begun is.text is.begun c.space-space.ensures grown;
      begun = sym (has_more words c.args.word.now);
    }
