use Rattle.std.specs.Prelude.{◌≡◌, ◌-◌, ◌≤◌, length, take, drop}
use Rattle.std.specs.VecDeque.{deque_len, deque_capacity}
use Rattle.line_memory.specs.Memory.{after, memory_at}
use Rattle.line_memory.proofs.history.History.cut.Given as goal

-- the writes that are to go yet make of the memory so far what all that go make of the first
abbrev pub invariant-loop-number : goal.invariant-loop-number
invariant-loop-number l = record {
  memory : after l.self-inside.base.items (take (l.at - l._number) l.self-inside.writes.items) ≡ memory_at l.fn.self.base l.fn.self.start l.fn.self.writes l.at;
  rest : drop (l.at - l._number) l.self-inside.writes.items ≡ drop (l.at - l.fn.self.start) l.fn.self.writes;
  enough : l.at - l._number ≤ length l.self-inside.writes.items;
  room : l.self-inside.room ≡ l.fn.self.room;
  within : deque_len l.self-inside.writes ≤ l.self-inside.room;
  reserved : l.self-inside.room ≤ deque_capacity l.self-inside.writes;
}
