use Rattle.std.proofs.Common.{◌≡◌, ◌∙◌, ℕ, List, ap, drop, sym, take}
use Rattle.std.specs.Int.{w64, from_le_bytes}
use Rattle.journal_log.specs.Log.{head_line}
use Rattle.journal_lines.proofs.Words.{first_word, second_word, third_word}
use Rattle.journal_lines.proofs.Ringing.{never}
use Rattle.journal_lines.proofs.lines.head_numbers.Goals as goal

pub returns-else-is_same-clause-none : goal.returns-else-is_same-clause-none
returns-else-is_same-clause-none c = λ gone first used fits_gone fits_first fits_used is.
    let word : ℕ → List ℕ → ℕ = λ at line. from_le_bytes w64 (take 8 (drop at line)) in
    let one : c.word_at.result ≡ gone = c.word_at.ensures ∙ ap (word 0) is ∙ first_word gone first used fits_gone in
    let two : c.word_at-2.result ≡ first = c.word_at-2.ensures ∙ ap (word 8) is ∙ second_word gone first used fits_first in
    let three : c.word_at-3.result ≡ used = c.word_at-3.ensures ∙ ap (word 16) is ∙ third_word gone first used fits_used in
    let same : c.args.line.now ≡ c.head_bytes.result =
    is ∙ ap (λ (n : ℕ). head_line n first used) (sym one) ∙ ap (λ (n : ℕ). head_line c.word_at.result n used) (sym two)
    ∙ ap (λ (n : ℕ). head_line c.word_at.result c.word_at-2.result n) (sym three) ∙ sym c.head_bytes.ensures in
    absurd (never (c.if-is_same.ensures.1 same))
