use Rattle.std.proofs.Common.{◌≡◌, ◌++◌, length, take, drop}
use Rattle.frfcfs.specs.Queue.{numbered_from}
use Rattle.frfcfs.proofs.queue.number_each.Given as goal

abbrev pub invariant-loop-place : goal.invariant-loop-place
invariant-loop-place l =
    (l.pending ≡ record l.fn.pending { items = numbered_from 0 (take l.place l.fn.pending.items) ++ drop l.place l.fn.pending.items })
    × (length l.pending.items ≡ length l.fn.pending.items)
