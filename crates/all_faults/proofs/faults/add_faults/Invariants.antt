use Rattle.std.proofs.Common.{◌+◌, ◌*◌}
use Rattle.all_faults.specs.Faults.{AreFaultsUpTo}
use Rattle.all_faults.proofs.faults.add_faults.Given as goal

abbrev pub invariant-loop-rule : goal.invariant-loop-rule
invariant-loop-rule l = AreFaultsUpTo l.c l.list (16 * l.second) l.fn.faults.items → AreFaultsUpTo l.c l.list (16 * l.second + l.rule-index) l.faults.items
