use Rattle.std.proofs.Common.{◌≡◌, ◌∙◌, ◌+◌, ◌-◌, ◌%◌, ◌∷◌, [], ℕ, List, ap, arith, length, sym}
use Rattle.std.specs.Prelude.{Some, slice_get, slice_index_or}
use Rattle.journal_log.specs.Lines.{lines_of}
use Rattle.journal_log.specs.Log.{head_line, head_of, used_by}
use Rattle.journal_log.specs.Calls.{Append, call_writes, head_write, log_after}
use Rattle.journal_log.proofs.Spelling.{length-lines_of, sizes-push}
use Rattle.journal_lines.proofs.Calling.{placed-end, placed-get}
use Rattle.journal_lines.proofs.index.Index.append_write.Goals as goal

pub returns-then-number-size : goal.returns-then-number-size
returns-then-number-size c = λ log is.
    let bytes : List ℕ = c.args.bytes.now in
    let lines : ℕ = c.args.self.now.lines in
    let at : log.first + used_by log + c.args.number ≡ c.args.self.now.first + c.args.self.now.used + c.args.number = omega (arith, is.first, is.used) in
    placed-get lines (log.first + used_by log) (lines_of bytes) (head_write (log_after lines log (Append bytes)) ∷ []) c.args.number
    (omega (arith, c.if-number-size.true, c.record_size-size.ensures, length-lines_of bytes))
    ∙ ap (λ (n : ℕ). Some (record { line = 1 + n % (lines - 1); «data» = slice_index_or (lines_of bytes) c.args.number [] })) at
    ∙ ap (λ (line : List ℕ). Some (record { line = 1 + (c.args.self.now.first + c.args.self.now.used + c.args.number) % (lines - 1); «data» = line })) (sym c.record_line.ensures)

pub returns-else-number-size : goal.returns-else-number-size
returns-else-number-size c = λ log is.
    let bytes : List ℕ = c.args.bytes.now in
    let lines : ℕ = c.args.self.now.lines in
    let last : c.args.number ≡ length (lines_of bytes) = omega (arith, c.if-number-size.false, c.record_size-size.ensures, c.requires.number, length-lines_of bytes) in
    let used : c.args.self.now.used + c.record_size-size.result ≡ used_by (log_after lines log (Append bytes)) = omega (arith, is.used, c.record_size-size.ensures, sizes-push log.records bytes) in
    let head : head_of (log_after lines log (Append bytes)) ≡ c.head_bytes.result =
    ap (head_line log.gone log.first) (sym used)
    ∙ ap (λ (n : ℕ). head_line n log.first (c.args.self.now.used + c.record_size-size.result)) (sym is.gone)
    ∙ ap (λ (n : ℕ). head_line c.args.self.now.gone n (c.args.self.now.used + c.record_size-size.result)) (sym is.first)
    ∙ sym c.head_bytes.ensures in
    ap (slice_get (call_writes lines log (Append bytes))) last
    ∙ placed-end lines (log.first + used_by log) (lines_of bytes) (head_write (log_after lines log (Append bytes)))
    ∙ ap (λ (line : List ℕ). Some (record { line = 0; «data» = line })) head
