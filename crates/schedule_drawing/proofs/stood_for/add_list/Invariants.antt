use Rattle.std.proofs.Common.{◌≡◌, ◌++◌, take}
use Rattle.schedule_drawing.specs.Entries.{entries_to}
use Rattle.schedule_drawing.proofs.stood_for.add_list.Given as goal

abbrev pub invariant-loop-i : goal.invariant-loop-i
invariant-loop-i l = l.entries.items ≡ l.fn.entries.items ++ entries_to l.channel (take l.i l.list)
