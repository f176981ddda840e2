use Rattle.std.proofs.Common.{◌≡◌, ◌∙◌, ℕ, Bool, ap, sym}
use Rattle.std.specs.Prelude.{if◌then◌else◌}
use Rattle.journal_log.specs.Lines.{line_with}
use Rattle.journal_lines.proofs.Places.{line_is}
use Rattle.journal_lines.proofs.lines.line_bytes.Goals as goal
use Rattle.journal_lines.proofs.lines.line_bytes.Goals.{then-last, else-last}

pub returns : goal.returns
returns c =
    let ends : c.if-last.ends ≡ (if c.args.last then 1 else 0) = elim c.if-last.branch [
      | then-last w ↦ w.ends-is ∙ sym (ap (λ (b : Bool). if b then 1 else 0) w.if-last.true)
      | else-last w ↦ w.ends-is ∙ sym (ap (λ (b : Bool). if b then 1 else 0) w.if-last.false)
    ] in
    c.put-2.ensures ∙ line_is c.if-last.ends c.args.bytes.now c.put.new.line c.put.ensures ∙ ap (λ (n : ℕ). line_with n c.args.bytes.now) ends
