use Rattle.std.proofs.Common.{◌≡◌, ◌+◌, ℕ, List, [], ◌∷◌, ◌++◌, length, take, get_or, Some, None, arith, rules, subst, tests}
use Rattle.std.proofs.lemmas.List.{append-nil, length_push, take_all}
use Rattle.std.proofs.lemmas.List.Elements.{All-append, All-cons, All-nil}
use Rattle.nv_script.specs.Line.{NamesChannelOf}
use Rattle.nv_script.specs.Texts.{AreLinesOf, ReadsAs, text_lines, without_last_newline}
use Rattle.nv_script.proofs.Scripts.{IsTurn, first_bad, first_too_many, line_turn, lines_end, lines_more}
use Rattle.nv_script.proofs.reading.read_script.Goals as goal

pub returns-then-number-gt-MOST_SCRIPT_LINES-clause-refused : goal.returns-then-number-gt-MOST_SCRIPT_LINES-clause-refused
returns-then-number-gt-MOST_SCRIPT_LINES-clause-refused c =
    let here : IsTurn (text_lines c.args.script.now) (length c.loop-index.yielded) c.in-Some.index c.in-Some.line.now =
    line_turn _ _ c.loop-index.yielded _ c.loop-index.yielded_by _ _ c.next.ensures.steps (without_last_newline c.args.script.now) (cc) (cc) c.split.ensures.closure (cc) (λ x b q k. search (rules, tests)) (c.in-Some.index, c.in-Some.line) c.in-Some.is in
    first_too_many c.args.geometry.now c.args.script.now _ _ _ c.loop-index.lines.items here c.loop-index.invariant.1 (omega arith)

pub returns-in-Err-Bad-clause-refused : goal.returns-in-Err-Bad-clause-refused
returns-in-Err-Bad-clause-refused c =
    let here : IsTurn (text_lines c.args.script.now) (length c.loop-index.yielded) c.in-Some.index c.in-Some.line.now =
    line_turn _ _ c.loop-index.yielded _ c.loop-index.yielded_by _ _ c.next.ensures.steps (without_last_newline c.args.script.now) (cc) (cc) c.split.ensures.closure (cc) (λ x b q k. search (rules, tests)) (c.in-Some.index, c.in-Some.line) c.in-Some.is in
    first_bad c.args.geometry.now c.args.script.now _ _ _ c.loop-index.lines.items here c.loop-index.invariant.1 (c.read_line.ensures.bad (cc))

pub loop-index-preserved-in-Ok : goal.loop-index-preserved-in-Ok
loop-index-preserved-in-Ok c =
    let P = NamesChannelOf c.args.geometry.now in
    let n : ℕ = length c.loop-index.yielded in
    let here : IsTurn (text_lines c.args.script.now) n c.in-Some.index c.in-Some.line.now =
    line_turn _ _ c.loop-index.yielded _ c.loop-index.yielded_by _ _ c.next.ensures.steps (without_last_newline c.args.script.now) (cc) (cc) c.split.ensures.closure (cc) (λ x b q k. search (rules, tests)) (c.in-Some.index, c.in-Some.line) c.in-Some.is in
    let comes : ReadsAs c.args.geometry.now (get_or (text_lines c.args.script.now) n []) (Some c.in-Ok-Some.line) =
    subst (λ (text : List ℕ). ReadsAs c.args.geometry.now text (Some c.in-Ok-Some.line)) here.line_is (rw c.in-Ok-Some.field-0-is at c.in-Ok-Some.ensures.comes) in
    let more : AreLinesOf c.args.geometry.now (take (n + 1) (text_lines c.args.script.now)) (c.loop-index.lines.items ++ c.in-Ok-Some.line ∷ []) =
    lines_more c.args.geometry.now (text_lines c.args.script.now) n c.loop-index.lines.items (Some c.in-Ok-Some.line) c.loop-index.invariant.1 here.below (omega (arith, here.index_is)) comes in (
      rw c.in-Ok.ensures.items
          (All-append P _ _ c.loop-index.invariant.0 (All-cons P _ [] (c.in-Ok-Some.ensures.names c.in-Ok-Some.line c.in-Ok-Some.field-0-is) (All-nil P))),
      rw (length_push c.loop-index.yielded (c.in-Some.index, c.in-Some.line), c.in-Ok.ensures.items) more,
    )

pub loop-index-preserved : goal.loop-index-preserved
loop-index-preserved c =
    let n : ℕ = length c.loop-index.yielded in
    let here : IsTurn (text_lines c.args.script.now) n c.in-Some.index c.in-Some.line.now =
    line_turn _ _ c.loop-index.yielded _ c.loop-index.yielded_by _ _ c.next.ensures.steps (without_last_newline c.args.script.now) (cc) (cc) c.split.ensures.closure (cc) (λ x b q k. search (rules, tests)) (c.in-Some.index, c.in-Some.line) c.in-Some.is in
    let comes : ReadsAs c.args.geometry.now (get_or (text_lines c.args.script.now) n []) None =
    subst (λ (text : List ℕ). ReadsAs c.args.geometry.now text None) here.line_is (rw c.in-Ok-None.field-0-is at c.in-Ok-None.ensures.comes) in
    let more : AreLinesOf c.args.geometry.now (take (n + 1) (text_lines c.args.script.now)) (c.loop-index.lines.items ++ []) =
    lines_more c.args.geometry.now (text_lines c.args.script.now) n c.loop-index.lines.items None c.loop-index.invariant.1 here.below (omega (arith, here.index_is)) comes in
    (c.loop-index.invariant.0, rw (length_push c.loop-index.yielded (c.in-Some.index, c.in-Some.line)) (rw append-nil at more))

pub returns-clause-script : goal.returns-clause-script
returns-clause-script c =
    let end : length c.loop-index.yielded ≡ length (text_lines c.args.script.now) =
    lines_end _ _ c.loop-index.yielded _ c.loop-index.yielded_by _ _ c.next.ensures.steps (without_last_newline c.args.script.now) (cc) (cc) c.split.ensures.closure (cc) (λ x b q k. search (rules, tests)) c.in-None.is in
    rw (take_all (length c.loop-index.yielded) (text_lines c.args.script.now) (omega arith)) at c.loop-index.invariant.1
