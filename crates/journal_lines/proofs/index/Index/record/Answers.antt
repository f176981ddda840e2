use Rattle.std.proofs.Common.{arith}
use Rattle.journal_lines.proofs.Finding.{record_found}
use Rattle.journal_lines.proofs.index.Index.record.Goals as goal

pub returns-clause-some : goal.returns-clause-some
returns-clause-some c = λ log is holds.
    record_found c.args.self.now log c.args.memory.now is holds c.requires c.args.number (omega (arith, c.if-number-self.false)) (omega (arith, c.if-end-number.false, c.end.ensures))
    c.index-place.result.now c.ring_distance-from.result c.in_ok-bytes.bytes.items c.index-place.ensures c.ring_distance-from.ensures c.in_ok-bytes.ensures
