-- What an index finds room and records for is allowed.
use Rattle.std.proofs.Common.{ℕ, List, ap, arith, length}
use Rattle.journal_log.specs.Log.{Log}
use Rattle.journal_log.specs.Calls.{Append, IsAllowed, Truncate}
use Rattle.journal_lines.specs.declared.index.Index.{Index}
use Rattle.journal_lines.specs.Indexed.{HasRoom, IsIndexOf, IsWithin}
use Rattle.journal_lines.proofs.Reading.{length-places}

pub append_allowed : (index : Index) (log : Log) (bytes : List ℕ) → IsIndexOf index log → HasRoom index bytes → IsAllowed index.lines log (Append bytes)
append_allowed index log bytes is room = (omega (arith, is.used, room.lines), omega (arith, is.used, is.gone, room.counted))

pub truncate_allowed : (index : Index) (log : Log) (upto : ℕ) → IsIndexOf index log → IsWithin index upto → IsAllowed index.lines log (Truncate upto)
truncate_allowed index log upto is within = (
  omega (arith, is.gone, within.above),
  omega (arith, is.gone, within.most, ap (λ (places : List ℕ). length places) is.places, length-places index.lines log.first log.records),
)
