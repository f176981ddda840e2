use Rattle.std.proofs.Common.{◌∙◌, ◌==◌, if◌then◌else◌, sym, take}
use Rattle.std.specs.VecDeque.Iter.{deque_iter_rest}
use Rattle.line_memory.proofs.LastWrites.{line_after_from, none_more}
use Rattle.line_memory.proofs.history.line_at.Goals as goal

pub returns : goal.returns
returns c =
    sym (none_more (λ value w. if w.line == c.args.line then w.«data» else value) c.loop-write.value (deque_iter_rest c.loop-write.write-iterator) c.in-None.ensures.steps.0)
    ∙ c.loop-write.invariant
    ∙ line_after_from (take c.args.count c.args.writes.now.items) c.args.base.now c.args.line c.loop-write.value c.requires.line
