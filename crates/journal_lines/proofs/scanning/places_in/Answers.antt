use Rattle.std.proofs.Common.{◌≡◌, ◌∙◌, ◌+◌, ◌-◌, ◌%◌, ◌++◌, ◌∷◌, [], ℕ, List, ap, arith, drop, length, refl, subst, sym, take}
use Rattle.journal_log.specs.Lines.{lines_of, size_of}
use Rattle.journal_lines.specs.Scanning.{lines_in_use}
use Rattle.journal_lines.proofs.Reading.{ReadUpTo, read_few, read_next, read_not}
use Rattle.journal_lines.proofs.Ringing.{length-in_use, never}
use Rattle.journal_lines.proofs.scanning.places_in.Goals as goal

pub returns-then-not-has_record-clause-none : goal.returns-then-not-has_record-clause-none
returns-then-not-has_record-clause-none c = λ records are.
    let lines = lines_in_use c.args.memory.now c.args.first c.args.used in
    let long : length lines ≡ c.args.used = length-in_use c.args.memory.now c.args.first c.args.used c.requires.used in
    let bytes : List ℕ = c.in_ok-bytes.bytes.items in
    read_not lines (length c.args.memory.now) c.args.first c.loop-from.from c.loop-from.places.items c.loop-from.invariant (omega (arith, long, c.loop-from-test.true)) (omega (arith, long, c.requires.used)) bytes c.in_ok-bytes.ensures
    (λ same. never (c.if-not-has_record.ensures.1 (subst (λ (b : List ℕ). take (size_of b) (drop c.loop-from.from lines) ≡ lines_of b) (sym c.deref.ensures.value) same))) records are

pub loop-from-preserved : goal.loop-from-preserved
loop-from-preserved c =
    let lines = lines_in_use c.args.memory.now c.args.first c.args.used in
    let long : length lines ≡ c.args.used = length-in_use c.args.memory.now c.args.first c.args.used c.requires.used in
    let bytes : List ℕ = c.in_ok-bytes.bytes.items in
    let there : take (size_of bytes) (drop c.loop-from.from lines) ≡ lines_of bytes =
    subst (λ (b : List ℕ). take (size_of b) (drop c.loop-from.from lines) ≡ lines_of b) c.deref.ensures.value (c.if-not-has_record.ensures.0 refl) in
    let next = read_next lines (length c.args.memory.now) c.args.first c.loop-from.from c.loop-from.places.items c.loop-from.invariant (omega (arith, long, c.loop-from-test.true)) (omega (arith, long, c.requires.used)) bytes c.in_ok-bytes.ensures there in
    let size : c.record_size.result ≡ size_of bytes = c.record_size.ensures ∙ ap size_of c.deref-in-loop-from.ensures.value in
    let places : c.push_back_reserved.new.self.items ≡ c.loop-from.places.items ++ (c.args.first + c.loop-from.from) % (length c.args.memory.now - 1) ∷ [] =
    c.push_back_reserved.ensures.items ∙ ap (λ (ps : List ℕ). ps ++ (c.args.first + c.loop-from.from) % (length c.args.memory.now - 1) ∷ []) c.reserve.ensures.items in
    subst (λ (k : ℕ). ReadUpTo lines (length c.args.memory.now) c.args.first (c.loop-from.from + k) c.push_back_reserved.new.self.items) (sym size)
    (subst (λ (ps : List ℕ). ReadUpTo lines (length c.args.memory.now) c.args.first (c.loop-from.from + size_of bytes) ps) (sym places) next)

pub returns-clause-few : goal.returns-clause-few
returns-clause-few c =
    omega (
      arith,
      length-in_use c.args.memory.now c.args.first c.args.used c.requires.used,
      read_few (lines_in_use c.args.memory.now c.args.first c.args.used) (length c.args.memory.now) c.args.first c.loop-from.from c.loop-from.places.items c.loop-from.invariant,
    )
