use Rattle.std.proofs.Common.{◌≡◌, ◌++◌, take, drop}
use Rattle.frfcfs.specs.Queue.{writes_among}
use Rattle.frfcfs.proofs.queue.Queue.drop_reads.Given as goal

abbrev pub invariant-loop-place : goal.invariant-loop-place
invariant-loop-place l = l.self ≡ record l.fn.self { requests = take l.place l.fn.self.requests ++ writes_among (drop l.place l.fn.self.requests) }
