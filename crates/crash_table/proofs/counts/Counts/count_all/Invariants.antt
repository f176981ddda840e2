use Rattle.std.proofs.Common.{List, ◌++◌, take}
use Rattle.crash_table.specs.declared.tried.Tried.{Tried}
use Rattle.crash_table.specs.Counting.{IsCountOf}
use Rattle.crash_table.proofs.counts.Counts.count_all.Given as goal

abbrev pub invariant-loop-one : goal.invariant-loop-one
invariant-loop-one l = (tried : List Tried) → IsCountOf tried l.fn.self → IsCountOf (tried ++ take l.one-index l.more) l.self
