use Rattle.std.proofs.Common.{rules, ◌≡◌, ◌+◌, ◌-◌, ◌≤◌, ℕ, List, ap, arith, drop, length, take}
use Rattle.std.specs.Prelude.{slice_range}
use Rattle.std.proofs.lemmas.List.{take_all}
use Rattle.std.proofs.Common.{length-drop}
use Rattle.journal_table.proofs.Shapes.{counted, said}
use Rattle.journal_table.proofs.record.read_record.Goals.{then-is_put, else-is_put+then-bytes-eq0, else-is_put+else-bytes-eq0}
use Rattle.journal_table.proofs.record.read_record.Goals as goal

pub returns-then-end-bytes-clause-some : goal.returns-then-end-bytes-clause-some
returns-then-end-bytes-clause-some c =
    let bytes : List ℕ = c.args.bytes.now in
    let count : ℕ = c.key_length-count.result in
    let long : 9 + count ≤ length bytes = omega (arith, c.if-count-bytes.false, c.if-bytes-lt-BEFORE_KEY.false) in
    said bytes (slice_range bytes 9 (9 + count)) (slice_range bytes (9 + count) (length bytes)) count long
    (counted bytes count (omega (arith, long)) (λ i. omega (arith, c.type_inv.bytes i)) c.key_length-count.ensures)
    (ap (λ (n : ℕ). take n (drop 9 bytes)) (let e : 9 + count - 9 ≡ count = omega arith in e))
    (take_all (length bytes - (9 + count)) (drop (9 + count) bytes) (omega (arith, length-drop (9 + count) bytes)))
    _
    (λ is. search rules)
    (λ not. search rules)
