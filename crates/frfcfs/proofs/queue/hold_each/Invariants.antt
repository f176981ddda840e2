use Rattle.std.proofs.Common.{◌≡◌, ◌++◌, length, map, take, drop}
use Rattle.frfcfs.specs.Queue.{held_by}
use Rattle.frfcfs.proofs.queue.hold_each.Given as goal

abbrev pub invariant-loop-place : goal.invariant-loop-place
invariant-loop-place l =
    (l.pending ≡ record l.fn.pending { items = map (held_by l.from) (take l.place l.fn.pending.items) ++ drop l.place l.fn.pending.items })
    × (length l.pending.items ≡ length l.fn.pending.items)
