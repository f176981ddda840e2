use Rattle.std.proofs.Common.{◌≡◌, ◌<◌, ℕ, List, Some, length, slice_get, slice_index, refl, sym, ap, ◌∙◌, subst, inl}
use Rattle.ddr4_timing.specs.declared.command.Stamped.{Stamped}
use Rattle.command_trace.specs.Reasons.{IsReasonOf}
use Rattle.command_trace.specs.declared.diagnosis.NumberedCommand.{NumberedCommand}
use Rattle.command_trace.proofs.Whys.{first_told}
use Rattle.command_trace.proofs.why.told_by_rule.Goals as goal

pub returns : goal.returns
returns c u listed lined broken =
    let second : NumberedCommand = record { line = c.args.last.now.line; command = c.args.last.now.command } in
    let first = c.unwrap_or-first.result in
    let at = c.args.broken.1 in
    let told : at < length u.list → (slice_get c.args.commands.now at ≡ Some first.command) × (first.line ≡ slice_index c.args.lines.now at) = λ within.
    let there = first_told c.args.commands.now c.args.lines.now at c.numbered.result second c.numbered.ensures.some c.numbered.ensures.none
    (subst (λ (l : List Stamped). at < length l) (sym listed) within) in (
      there.0 ∙ ap (λ (it : NumberedCommand). Some it.command) (sym c.unwrap_or-first.ensures),
      ap (λ (it : NumberedCommand). it.line) c.unwrap_or-first.ensures ∙ there.1,
    ) in
    record {
      broken = inl broken;
      second = ap (λ (l : List Stamped). length l) listed;
      command = refl;
      line = refl;
      first = λ within. subst (λ (l : List Stamped). slice_get l at ≡ Some first.command) listed (told within).0;
      first_line = λ within. (told within).1 ∙ ap (λ (l : List ℕ). slice_index l at) lined;
      reason = subst (λ (l : List Stamped). IsReasonOf c.args.rules.now c.args.broken.0 l first.command c.args.last.now.command c.of.result) listed c.of.ensures;
    }
