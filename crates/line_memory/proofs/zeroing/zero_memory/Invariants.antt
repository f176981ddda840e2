use Rattle.std.proofs.Common.{◌≡◌, ◌≤◌, vec_capacity}
use Rattle.line_memory.specs.Memory.{zero_lines}
use Rattle.line_memory.proofs.zeroing.zero_memory.Given as goal

abbrev pub invariant-loop-line : goal.invariant-loop-line
invariant-loop-line l = record { items : l.memory.items ≡ zero_lines l._line; room : l.fn.lines ≤ vec_capacity l.memory }
