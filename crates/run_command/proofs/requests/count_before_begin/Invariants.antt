use Rattle.std.proofs.Common.{◌≡◌, ◌+◌, drop}
use Rattle.run_command.specs.Requests.{count_before_begin}
use Rattle.run_command.proofs.requests.count_before_begin.Given as goal

abbrev pub invariant-loop-index : goal.invariant-loop-index
invariant-loop-index l = count_before_begin l.profile l.lines ≡ l.index + count_before_begin l.profile (drop l.index l.lines)
