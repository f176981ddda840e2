use Rattle.std.proofs.Common.{◌≡◌, ◌+◌, ◌<◌, ℕ, List, [], length, get_or, ap, arith, rules, sym, subst}
use Rattle.nv_profile.specs.Nothing.{HoldsOfNone}
use Rattle.nv_script.specs.Texts.{ReadsAs, text_lines}
use Rattle.script_report.specs.BadLines.{numbers_of}
use Rattle.script_report.proofs.Lines.{HasNoNewline, TellsFirst, are_with_last, is_there, lines_without, one_told, tells_bad, tells_good}
use Rattle.script_report.proofs.lint.bad_lines.Goals as goal

pub returns-then-place-eq-MOST_SCRIPT_LINES : goal.returns-then-place-eq-MOST_SCRIPT_LINES
returns-then-place-eq-MOST_SCRIPT_LINES c =
    let texts : List (List ℕ) = text_lines c.args.script.now in
    let full : c.loop-place.place ≡ 4096 = search rules in
    let below : c.loop-place.place < length texts = is_there c.in_ok-lines.lines.items texts c.loop-place.place c.in_ok-lines.ensures (search rules) in
    are_with_last c.args.geometry.now c.args.script.now (numbers_of c.loop-place.bad.items) c.push.new.self.items
    (subst (λ (n : ℕ). TellsFirst c.args.geometry.now texts n (numbers_of c.loop-place.bad.items)) full c.loop-place.invariant) (subst (λ (n : ℕ). n < length texts) full below)
    (one_told c.loop-place.bad.items c.push.new.self.items _ 4097 c.in_ok-push.ensures.items (ap (λ (n : ℕ). n + 1) full))

pub is_bad_line-requires : goal.is_bad_line-requires
is_bad_line-requires c =
    let texts : List (List ℕ) = text_lines c.args.script.now in
    let below : c.loop-place.place < length texts = is_there c.in_ok-lines.lines.items texts c.loop-place.place c.in_ok-lines.ensures (search rules) in
    let at : c.line_at-line.result.now ≡ get_or texts c.loop-place.place [] = search rules in
    subst HasNoNewline (sym at) (lines_without c.args.script.now c.loop-place.place below)

pub loop-place-preserved-then-not-branch : goal.loop-place-preserved-then-not-branch
loop-place-preserved-then-not-branch c =
    let texts : List (List ℕ) = text_lines c.args.script.now in
    let n : ℕ = c.loop-place.place in
    let few : n < 4096 = omega (arith, c.loop-place.invariant.few, c.if-place-eq-MOST_SCRIPT_LINES.false) in
    let at : c.line_at-line.result.now ≡ get_or texts n [] = search rules in
    let good = c.is_bad_line.ensures.good (search rules) in
    tells_good c.args.geometry.now texts n (numbers_of c.loop-place.bad.items) good.0 c.loop-place.invariant few
    (subst (λ (line : List ℕ). ReadsAs c.args.geometry.now line good.0) at good.1)

pub loop-place-preserved : goal.loop-place-preserved
loop-place-preserved c =
    let texts : List (List ℕ) = text_lines c.args.script.now in
    let n : ℕ = c.loop-place.place in
    let below : n < length texts = is_there c.in_ok-lines.lines.items texts n c.in_ok-lines.ensures (search rules) in
    let few : n < 4096 = omega (arith, c.loop-place.invariant.few, c.if-place-eq-MOST_SCRIPT_LINES.false) in
    let at : c.line_at-line.result.now ≡ get_or texts n [] = search rules in
    let none : HoldsOfNone (ReadsAs c.args.geometry.now c.line_at-line.result.now) = c.is_bad_line.ensures.bad (search rules) in
    let numbers : List ℕ = numbers_of c.loop-place.bad.items in
    subst (TellsFirst c.args.geometry.now texts (n + 1)) (sym (one_told c.loop-place.bad.items c.push-in-loop-place.new.self.items _ (n + 1) c.in_ok-push-2.ensures.items (search rules)))
    (tells_bad c.args.geometry.now texts n numbers c.loop-place.invariant few below (subst (λ (line : List ℕ). HoldsOfNone (ReadsAs c.args.geometry.now line)) at none))
