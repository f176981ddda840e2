use Rattle.std.proofs.Common.{◌≡◌, ◌∙◌, ◌++◌, ◌∷◌, ◌+◌, ℕ, List, ap, drop, sym}
use Rattle.journal_lines.specs.Scanning.{held_by, lines_in_use}
use Rattle.journal_lines.proofs.Ringing.{one_in_use, read_on, read_to_end}
use Rattle.journal_lines.proofs.scanning.bytes_at.Goals as goal

pub returns-then-line-eq1 : goal.returns-then-line-eq1
returns-then-line-eq1 c =
    let lines = lines_in_use c.args.memory.now c.args.first c.args.used in
    let here : drop c.loop-number.number lines ≡ c.ring_line-line.result.now ∷ drop (c.loop-number.number + 1) lines =
    one_in_use c.args.memory.now c.args.first c.args.used c.loop-number.number c.requires.used c.loop-number-test.true
    ∙ ap (λ (line : List ℕ). line ∷ drop (c.loop-number.number + 1) lines) (sym c.ring_line-line.ensures) in
    let grown : c.extend_from_slice.new.self.items ≡ c.loop-number.bytes.items ++ held_by c.ring_line-line.result.now =
    c.in_ok-extend_from_slice.ensures.items ∙ ap (λ (b : List ℕ). c.loop-number.bytes.items ++ b) c.held.ensures in
    read_to_end lines c.loop-number.number c.ring_line-line.result.now c.loop-number.bytes.items c.extend_from_slice.new.self.items _ c.loop-number.invariant here grown c.if-line-eq1.true

pub loop-number-preserved : goal.loop-number-preserved
loop-number-preserved c =
    let lines = lines_in_use c.args.memory.now c.args.first c.args.used in
    let here : drop c.loop-number.number lines ≡ c.ring_line-line.result.now ∷ drop (c.loop-number.number + 1) lines =
    one_in_use c.args.memory.now c.args.first c.args.used c.loop-number.number c.requires.used c.loop-number-test.true
    ∙ ap (λ (line : List ℕ). line ∷ drop (c.loop-number.number + 1) lines) (sym c.ring_line-line.ensures) in
    let grown : c.extend_from_slice.new.self.items ≡ c.loop-number.bytes.items ++ held_by c.ring_line-line.result.now =
    c.in_ok-extend_from_slice.ensures.items ∙ ap (λ (b : List ℕ). c.loop-number.bytes.items ++ b) c.held.ensures in
    read_on lines c.loop-number.number c.ring_line-line.result.now c.loop-number.bytes.items c.extend_from_slice.new.self.items _ c.loop-number.invariant here grown c.if-line-eq1.false
