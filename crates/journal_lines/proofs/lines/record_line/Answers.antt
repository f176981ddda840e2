use Rattle.std.proofs.Common.{◌≡◌, ◌∙◌, ◌+◌, ◌-◌, ◌*◌, ◌/◌, [], ℕ, ap, arith, drop, length, sym, take}
use Rattle.std.specs.Prelude.{slice_index_or}
use Rattle.std.proofs.lemmas.List.{take_rest}
use Rattle.journal_log.specs.Lines.{line_with, lines_of}
use Rattle.journal_lines.proofs.Places.{inner_line, is_inner, is_last, last_line}
use Rattle.journal_lines.proofs.lines.record_line.Goals as goal

pub returns-then-bytes-from-gt-MOST_IN_LINE : goal.returns-then-bytes-from-gt-MOST_IN_LINE
returns-then-bytes-from-gt-MOST_IN_LINE c =
    let size : c.args.number * 62 + 62 - c.args.number * 62 ≡ 62 = omega arith in
    c.line_bytes.ensures
    ∙ ap (λ (k : ℕ). line_with 0 (take k (drop (c.args.number * 62) c.args.bytes.now))) size
    ∙ sym (inner_line c.args.number ((length c.args.bytes.now - 1) / 62) c.args.bytes.now (is_inner c.args.number (length c.args.bytes.now) c.if-bytes-from-gt-MOST_IN_LINE.true))

pub returns-else-bytes-from-gt-MOST_IN_LINE : goal.returns-else-bytes-from-gt-MOST_IN_LINE
returns-else-bytes-from-gt-MOST_IN_LINE c =
    let same : (length c.args.bytes.now - 1) / 62 ≡ c.args.number = is_last c.args.number (length c.args.bytes.now) c.requires c.if-bytes-from-gt-MOST_IN_LINE.false in
    c.line_bytes-else-bytes-from-gt-MOST_IN_LINE.ensures
    ∙ ap (line_with 1) (take_rest c.args.bytes.now (c.args.number * 62))
    ∙ ap (λ (n : ℕ). line_with 1 (drop (n * 62) c.args.bytes.now)) (sym same)
    ∙ sym (last_line ((length c.args.bytes.now - 1) / 62) c.args.bytes.now)
    ∙ ap (λ (n : ℕ). slice_index_or (lines_of c.args.bytes.now) n []) same
