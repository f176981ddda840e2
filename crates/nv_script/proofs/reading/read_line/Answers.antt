use Rattle.std.proofs.Common.{◌≡◌, ◌<◌, false, length, arith, rules}
use Rattle.std.proofs.lemmas.List.{length-map}
use Rattle.nv_script.specs.Texts.{is_skipped}
use Rattle.nv_script.specs.Words.{texts_of, words_in}
use Rattle.nv_script.proofs.Texts.{comes_to_none, read_by_words, skipped_without_words}
use Rattle.nv_script.proofs.reading.read_line.Goals as goal

pub returns-then-is_empty-clause-comes : goal.returns-then-is_empty-clause-comes
returns-then-is_empty-clause-comes c =
    let none : length c.in_ok-words.words.items ≡ 0 = search rules in
    let skipped = skipped_without_words c.args.line.now (texts_of c.in_ok-words.words.items) (search rules) (search (rules, length-map)) in
    search (rules, skipped)

pub returns-in_err-line_of-clause-bad : goal.returns-in_err-line_of-clause-bad
returns-in_err-line_of-clause-bad c =
    let words : texts_of c.deref.result.now ≡ words_in c.args.line.now = search rules in
    let some : 0 < length (texts_of c.deref.result.now) = search (rules, length-map) in
    let asks : is_skipped c.args.line.now ≡ false = read_by_words c.args.line.now (texts_of c.deref.result.now) words (search rules) some in
    λ bad. comes_to_none c.args.geometry.now c.args.line.now (texts_of c.deref.result.now) words asks c.in_err-line_of.ensures.none

pub returns-clause-comes : goal.returns-clause-comes
returns-clause-comes c =
    let words : texts_of c.deref.result.now ≡ words_in c.args.line.now = search rules in
    let some : 0 < length (texts_of c.deref.result.now) = search (rules, length-map) in
    let asks : is_skipped c.args.line.now ≡ false = read_by_words c.args.line.now (texts_of c.deref.result.now) words (search rules) some in
    let says = rw words at c.in_ok-line_of.ensures.says in
    search (rules, asks, says)
