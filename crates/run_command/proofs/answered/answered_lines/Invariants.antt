use Rattle.std.proofs.Common.{◌≡◌, ◌+◌, ◌++◌, drop}
use Rattle.run_command.specs.Answered.{answered_lines}
use Rattle.run_command.proofs.answered.answered_lines.Given as goal

abbrev pub invariant-loop-index : goal.invariant-loop-index
invariant-loop-index l = answered_lines 1 l.lines l.answers ≡ l.answered.items ++ answered_lines (l.index + 1) (drop l.index l.lines) l.left
