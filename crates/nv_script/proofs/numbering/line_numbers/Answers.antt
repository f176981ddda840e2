use Rattle.std.proofs.Common.{◌≡◌, ◌∙◌, ◌+◌, ℕ, List, [], ◌∷◌, ◌++◌, false, true, length, take, ap, arith, rules, sym, tests}
use Rattle.std.proofs.lemmas.List.{length_push, take_all}
use Rattle.nv_script.specs.Texts.{is_skipped, numbers_from, text_lines, without_last_newline}
use Rattle.nv_script.proofs.Blanks.{asked_more, skipped_more}
use Rattle.nv_script.proofs.Scripts.{IsTurn, line_turn, lines_end}
use Rattle.nv_script.proofs.numbering.line_numbers.Goals as goal

pub loop-index-preserved-in-Continue-1 : goal.loop-index-preserved-in-Continue-1
loop-index-preserved-in-Continue-1 c =
    let n : ℕ = length c.loop-index.yielded in let lines : List (List ℕ) = text_lines c.args.script.now in
    let here : IsTurn lines n c.in-Some.index c.in-Some.line.now =
    line_turn _ _ c.loop-index.yielded _ c.loop-index.yielded_by _ _ c.next.ensures.steps (without_last_newline c.args.script.now) (cc) (cc) c.split.ensures.closure (cc) (λ x b q k. search (rules, tests)) (c.in-Some.index, c.in-Some.line) c.in-Some.is in
    let asks : is_skipped c.in-Some.line.now ≡ false = search rules in
    let more : c.loop-index.numbers.items ++ (n + 1) ∷ [] ≡ numbers_from 1 (take (n + 1) lines) = asked_more lines n c.in-Some.line.now c.loop-index.numbers.items here.line_is asks c.loop-index.invariant here.below in
    let pushed : c.push.new.self.items ≡ c.loop-index.numbers.items ++ (c.in-Some.index + 1) ∷ [] = search rules in
    pushed ∙ ap (λ (k : ℕ). c.loop-index.numbers.items ++ (k + 1) ∷ []) here.index_is ∙ more
    ∙ ap (λ (k : ℕ). numbers_from 1 (take k lines)) (sym (length_push c.loop-index.yielded (c.in-Some.index, c.in-Some.line)))

pub loop-index-preserved : goal.loop-index-preserved
loop-index-preserved c =
    let n : ℕ = length c.loop-index.yielded in let lines : List (List ℕ) = text_lines c.args.script.now in
    let here : IsTurn lines n c.in-Some.index c.in-Some.line.now =
    line_turn _ _ c.loop-index.yielded _ c.loop-index.yielded_by _ _ c.next.ensures.steps (without_last_newline c.args.script.now) (cc) (cc) c.split.ensures.closure (cc) (λ x b q k. search (rules, tests)) (c.in-Some.index, c.in-Some.line) c.in-Some.is in
    let skipped : is_skipped c.in-Some.line.now ≡ true = search rules in
    skipped_more lines n c.in-Some.line.now c.loop-index.numbers.items here.line_is skipped c.loop-index.invariant here.below
    ∙ ap (λ (k : ℕ). numbers_from 1 (take k lines)) (sym (length_push c.loop-index.yielded (c.in-Some.index, c.in-Some.line)))

pub returns : goal.returns
returns c =
    let lines : List (List ℕ) = text_lines c.args.script.now in
    let end : length c.loop-index.yielded ≡ length lines =
    lines_end _ _ c.loop-index.yielded _ c.loop-index.yielded_by _ _ c.next.ensures.steps (without_last_newline c.args.script.now) (cc) (cc) c.split.ensures.closure (cc) (λ x b q k. search (rules, tests)) c.in-None.is in
    c.loop-index.invariant ∙ ap (numbers_from 1) (take_all (length c.loop-index.yielded) lines (omega arith))
