use Rattle.std.proofs.Common.{◌≡◌, ◌∙◌, ◌+◌, ◌-◌, ◌≤◌, [], ℕ, ap, arith, drop, get_or, length, length-drop, refl, subst, sym, take}
use Rattle.std.proofs.lemmas.List.{get_or-drop, get_or-take, length-take, take_all, take_more_same}
use Rattle.journal_log.specs.Lines.{lines_of, size_of}
use Rattle.journal_log.specs.Log.{ring_of, rotated}
use Rattle.journal_log.proofs.Spelling.{length-lines_of}
use Rattle.journal_lines.specs.Scanning.{lines_in_use}
use Rattle.journal_lines.proofs.Ringing.{length-in_use, never}
use Rattle.journal_lines.proofs.scanning.has_record.Goals as goal

pub returns-then-size-used : goal.returns-then-size-used
returns-then-size-used c =
    let lines = lines_in_use c.args.memory.now c.args.first c.args.used in (
      λ yes. absurd (never yes),
      λ same. absurd (omega (
        arith,
        c.if-size-used.true,
        c.record_size-size.ensures,
        ap length same,
        length-lines_of c.args.bytes.now,
        length-take (size_of c.args.bytes.now) (drop c.args.from lines),
        length-drop c.args.from lines,
        length-in_use c.args.memory.now c.args.first c.args.used c.requires.used,
      )),
    )

pub loop-number-preserved : goal.loop-number-preserved
loop-number-preserved c =
    let lines = lines_in_use c.args.memory.now c.args.first c.args.used in
    let long : length lines ≡ c.args.used = length-in_use c.args.memory.now c.args.first c.args.used c.requires.used in
    let enough : c.record_size-size.result ≤ c.args.used - c.args.from = omega (arith, c.if-size-used.false) in
    let here : get_or (drop c.args.from lines) c.loop-number.number [] ≡ get_or (lines_of c.args.bytes.now) c.loop-number.number [] =
    get_or-drop c.args.from lines c.loop-number.number []
    ∙ get_or-take c.args.used (rotated c.args.first (ring_of c.args.memory.now)) (c.args.from + c.loop-number.number) [] (omega (arith, enough, c.loop-number-test.true, c.requires.from))
    ∙ sym c.ring_line-line.ensures ∙ c.if-not-is_same.ensures.0 refl ∙ c.record_line.ensures in
    take_more_same (drop c.args.from lines) (lines_of c.args.bytes.now) c.loop-number.number []
    (omega (arith, long, enough, c.loop-number-test.true, length-drop c.args.from lines))
    (omega (arith, c.loop-number-test.true, c.record_size-size.ensures, length-lines_of c.args.bytes.now)) c.loop-number.invariant here

pub returns : goal.returns
returns c =
    let lines = lines_in_use c.args.memory.now c.args.first c.args.used in
    let all : c.loop-number.number ≡ size_of c.args.bytes.now = omega (arith, c.loop-number-test.false, c.loop-number.auto.number-end, c.record_size-size.ensures) in (
      λ yes. subst (λ (n : ℕ). take n (drop c.args.from lines) ≡ take n (lines_of c.args.bytes.now)) all c.loop-number.invariant
          ∙ take_all (size_of c.args.bytes.now) (lines_of c.args.bytes.now) (omega (arith, length-lines_of c.args.bytes.now)),
      λ same. refl,
    )
