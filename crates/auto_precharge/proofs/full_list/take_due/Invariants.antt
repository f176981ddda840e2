use Rattle.std.proofs.Common.{◌≡◌, ◌++◌, take}
use Rattle.auto_precharge.specs.Unfolding.{due, due_lines}
use Rattle.auto_precharge.proofs.full_list.take_due.Given as goal

abbrev pub invariant-loop-i : goal.invariant-loop-i
invariant-loop-i l =
    (l.commands.items ≡ l.fn.commands.items ++ due l.clock (take l.i l.closings)) × (l.lines.items ≡ l.fn.lines.items ++ due_lines l.clock (take l.i l.closings))
