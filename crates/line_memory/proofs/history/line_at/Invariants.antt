use Rattle.std.specs.Prelude.{◌≡◌, ◌==◌, if◌then◌else◌, fold, slice_index_or, take}
use Rattle.std.specs.VecDeque.Iter.{deque_iter_rest}
use Rattle.line_memory.proofs.history.line_at.Given as goal

-- the line so far, after what is left of the writes, is the line after all of them
abbrev pub invariant-loop-write : goal.invariant-loop-write
invariant-loop-write l =
    fold (λ value w. if w.line == l.line then w.«data» else value) l.value (deque_iter_rest l.write-iterator)
    ≡ fold (λ value w. if w.line == l.line then w.«data» else value) (slice_index_or l.base l.line l.value) (take l.count l.writes.items)
