use Rattle.std.proofs.Common.{◌≡◌, length}
use Rattle.frfcfs.proofs.KeyLemmas.{AreToldUpto}
use Rattle.frfcfs.proofs.queue.tell_keys.Given as goal

abbrev pub invariant-loop-place : goal.invariant-loop-place
invariant-loop-place l = AreToldUpto l.pending l.fn.keys.items l.keys.items l.place × (length l.keys.items ≡ length l.fn.keys.items) × (l.keys.most ≡ l.fn.keys.most)
